-- What a wire with the points of a case promises: they are a drawn wire, and those of the table.
use Rattle.wire_detours.proofs.Vocabulary.{◌≡◌, ◌≢◌, ◌⊎◌, ℕ, zero, suc, ◌≤◌, [], ◌∷◌, All, take, replicate, inl, inr, ℤ, pos, ◌+ℤ◌, ◌≤ℤ◌, ◌<ℤ◌, refl, sym, ap, subst, arith, ints, by_lt_z, All-nil, All-cons, Point, distance, ArePadded, IsDrawn, ArePoints, HasDetour, origin, shown, bent, under, over, beside, round}
use Rattle.cts_model.specs.declared.tree.Wire.{Wire}
use Rattle.wire_detours.proofs.PieceLemmas.{apart_least, apart_more, apart_same}
use Rattle.wire_detours.proofs.DetourLemmas.{distance_least}
use Rattle.wire_detours.proofs.DrawnLemmas.{drawn_place, drawn_upright, drawn_level, drawn_bent, drawn_under, drawn_over, drawn_beside, drawn_round}

-- all that is promised of an edge's wire
pub record IsEdgeWire (from to : Point) (long : ℤ) (wire : Wire) : Type 0 where
  pub drawn : IsDrawn from to long (take wire.used wire.corners)
  pub points : ArePoints from to long (take wire.used wire.corners)
  pub padded : ArePadded wire
  pub used : (1 ≤ wire.used) × (wire.used ≤ 5)

-- two numbers are the same or not
pub by_same : {P : Type 0} (a b : ℤ) → (a ≡ b → P) → (a ≢ b → P) → P
by_same a b same differ =
    by_lt_z a b
    (λ less. differ (λ is. omega (arith, ints, less, is)))
    (λ no_less. by_lt_z b a
    (λ less. differ (λ is. omega (arith, ints, less, is)))
    (λ no_more. same (omega (arith, ints))))

-- past the points there is only the origin
origins : (n : ℕ) → All (λ corner. corner ≡ origin) (replicate n origin)
origins zero = All-nil (λ corner. corner ≡ origin)
origins (suc n) = All-cons (λ corner. corner ≡ origin) origin (replicate n origin) refl (origins n)

-- a wire with a detour is longer than the distance
longer : (from to : Point) (long by : ℤ) → HasDetour from to long by → distance from to <ℤ long
longer from to long by has = omega (arith, ints, has.positive, has.twice)

-- and has one detour
same_detour : (from to : Point) (long by other : ℤ) → HasDetour from to long by
    → HasDetour from to long other → by ≡ other
same_detour from to long by other has others = omega (arith, ints, has.twice, others.twice)

-- and so has a square one side
same_side : (from to : Point) (long side other : ℤ) → HasDetour from to long (side +ℤ side)
    → HasDetour from to long (other +ℤ other) → side ≡ other
same_side from to long side other has others = omega (arith, ints, has.twice, others.twice)

-- ---- without a detour

-- a length that is the distance has none
no_detour : (from to : Point) (long by : ℤ) → long ≡ distance from to
    → HasDetour from to long by → ⊥
no_detour from to long by is has = let more = longer from to long by has in omega (
  arith,
  ints,
  is,
  more,
)

-- the wire of no length
wire_place : (from to : Point) (long : ℤ) → long ≡ distance from to → from.x ≡ to.x
    → from.y ≡ to.y → IsEdgeWire from to long (shown 1 (from ∷ []))
wire_place from to long is x y =
    let wide = apart_same from.x to.x x in
    let high = apart_same from.y to.y y in
    let none : long ≡ pos 0 = omega (arith, ints, is, wide, high) in
    record {
      drawn = drawn_place from to long x y none;
      points = record {
        none = λ _. refl;
        straight = λ some _ _. absurd (omega (arith, ints, some, none));
        bent = λ _ differ _. absurd (differ x);
        under = λ by has _ _. absurd (no_detour from to long by is has);
        over = λ by has _ _. absurd (no_detour from to long by is has);
        beside = λ by has _ _. absurd (no_detour from to long by is has);
        round = λ side has _ _. absurd (no_detour from to long (side +ℤ side) is has);
      };
      padded = record { all = refl; rest = origins 4 };
      used = (omega arith, omega arith);
    }

-- the points of a straight wire are those of the table
points_straight : (from to : Point) (long : ℤ) → long ≡ distance from to → pos 0 <ℤ long
    → (from.x ≡ to.x) ⊎ (from.y ≡ to.y) → ArePoints from to long (from ∷ to ∷ [])
points_straight from to long is some same = record {
  none = λ none. absurd (omega (arith, ints, some, none));
  straight = λ _ _ _. refl;
  bent = λ _ x y. absurd (neither x y same);
  under = λ by has _ _. absurd (no_detour from to long by is has);
  over = λ by has _ _. absurd (no_detour from to long by is has);
  beside = λ by has _ _. absurd (no_detour from to long by is has);
  round = λ side has _ _. absurd (no_detour from to long (side +ℤ side) is has);
}
  where
    neither : from.x ≢ to.x → from.y ≢ to.y → (from.x ≡ to.x) ⊎ (from.y ≡ to.y) → ⊥
    neither x y (inl is) = x is
    neither x y (inr is) = y is

-- a straight wire up or down
wire_upright : (from to : Point) (long : ℤ) → long ≡ distance from to → from.x ≡ to.x
    → from.y ≢ to.y → IsEdgeWire from to long (shown 2 (from ∷ to ∷ []))
wire_upright from to long is x y =
    let wide = apart_least from.x to.x in
    let more = apart_more from.y to.y y in
    record {
      drawn = drawn_upright from to long x y is;
      points = points_straight from to long is (omega (arith, ints, is, wide, more)) (inl x);
      padded = record { all = refl; rest = origins 3 };
      used = (omega arith, omega arith);
    }

-- a straight wire to a side
wire_level : (from to : Point) (long : ℤ) → long ≡ distance from to → from.x ≢ to.x
    → from.y ≡ to.y → IsEdgeWire from to long (shown 2 (from ∷ to ∷ []))
wire_level from to long is x y =
    let high = apart_least from.y to.y in
    let more = apart_more from.x to.x x in
    record {
      drawn = drawn_level from to long x y is;
      points = points_straight from to long is (omega (arith, ints, is, high, more)) (inr y);
      padded = record { all = refl; rest = origins 3 };
      used = (omega arith, omega arith);
    }

-- a wire of one bend
wire_bent : (from to : Point) (long : ℤ) → long ≡ distance from to → from.x ≢ to.x
    → from.y ≢ to.y → IsEdgeWire from to long (shown 3 (bent from to))
wire_bent from to long is x y =
    let high = apart_least from.y to.y in
    let more = apart_more from.x to.x x in
    record {
      drawn = drawn_bent from to long x y is;
      points = record {
        none = λ none. absurd (omega (arith, ints, is, high, more, none));
        straight = λ _ _ same. absurd (neither same);
        bent = λ _ _ _. refl;
        under = λ by has _ _. absurd (no_detour from to long by is has);
        over = λ by has _ _. absurd (no_detour from to long by is has);
        beside = λ by has _ _. absurd (no_detour from to long by is has);
        round = λ side has _ _. absurd (no_detour from to long (side +ℤ side) is has);
      };
      padded = record { all = refl; rest = origins 2 };
      used = (omega arith, omega arith);
    }
  where
    neither : (from.x ≡ to.x) ⊎ (from.y ≡ to.y) → ⊥
    neither (inl same) = x same
    neither (inr same) = y same

-- the shortest wire in each of its cases
pub wire_shortest : (from to : Point) (long : ℤ) (wire : Wire) → long ≡ distance from to
    → (from.x ≡ to.x → from.y ≡ to.y → wire ≡ shown 1 (from ∷ []))
    → (from.x ≡ to.x → from.y ≢ to.y → wire ≡ shown 2 (from ∷ to ∷ []))
    → (from.x ≢ to.x → from.y ≡ to.y → wire ≡ shown 2 (from ∷ to ∷ []))
    → (from.x ≢ to.x → from.y ≢ to.y → wire ≡ shown 3 (bent from to)) → IsEdgeWire from to long wire
wire_shortest from to long wire is place upright level rotated =
    by_same from.x to.x
    (λ x. by_same from.y to.y
    (λ y. subst (IsEdgeWire from to long) (sym (place x y)) (wire_place from to long is x y))
    (λ y. subst (IsEdgeWire from to long) (sym (upright x y)) (wire_upright from to long is x y)))
    (λ x. by_same from.y to.y
    (λ y. subst (IsEdgeWire from to long) (sym (level x y)) (wire_level from to long is x y))
    (λ y. subst (IsEdgeWire from to long) (sym (rotated x y)) (wire_bent from to long is x y)))

-- ---- with a detour

-- a wire with a detour has a length
not_nothing : (from to : Point) (long by : ℤ) → HasDetour from to long by → long ≡ pos 0 → ⊥
not_nothing from to long by has none =
    let least = distance_least from to in
    let more = longer from to long by has in
    omega (arith, ints, least, more, none)

-- a detour below
wire_under : (from to : Point) (long by : ℤ) → HasDetour from to long by → from.x ≢ to.x
    → from.y <ℤ to.y → IsEdgeWire from to long (shown 4 (under from to by))
wire_under from to long by has x less = record {
  drawn = drawn_under from to long by has x less;
  points = record {
    none = λ none. absurd (not_nothing from to long by has none);
    straight = λ _ is _. absurd (no_detour from to long by is has);
    bent = λ is _ _. absurd (no_detour from to long by is has);
    under = λ other others _ _. ap (under from to) (same_detour from to long by other has others);
    over = λ _ _ _ no_less. absurd (omega (arith, ints, less, no_less));
    beside = λ _ _ same _. absurd (x same);
    round = λ _ _ same _. absurd (x same);
  };
  padded = record { all = refl; rest = origins 1 };
  used = (omega arith, omega arith);
}

-- a detour above
wire_over : (from to : Point) (long by : ℤ) → HasDetour from to long by → from.x ≢ to.x
    → to.y ≤ℤ from.y → IsEdgeWire from to long (shown 4 (over from to by))
wire_over from to long by has x no_less = record {
  drawn = drawn_over from to long by has x no_less;
  points = record {
    none = λ none. absurd (not_nothing from to long by has none);
    straight = λ _ is _. absurd (no_detour from to long by is has);
    bent = λ is _ _. absurd (no_detour from to long by is has);
    under = λ _ _ _ less. absurd (omega (arith, ints, less, no_less));
    over = λ other others _ _. ap (over from to) (same_detour from to long by other has others);
    beside = λ _ _ same _. absurd (x same);
    round = λ _ _ same _. absurd (x same);
  };
  padded = record { all = refl; rest = origins 1 };
  used = (omega arith, omega arith);
}

-- a detour along x, below or above
pub wire_around : (from to : Point) (long by : ℤ) (wire : Wire) → HasDetour from to long by
    → from.x ≢ to.x → (from.y <ℤ to.y → wire ≡ shown 4 (under from to by))
    → (to.y ≤ℤ from.y → wire ≡ shown 4 (over from to by)) → IsEdgeWire from to long wire
wire_around from to long by wire has x low high =
    by_lt_z from.y to.y
    (λ less. subst (IsEdgeWire from to long) (sym (low less))
    (wire_under from to long by has x less))
    (λ no_less. subst (IsEdgeWire from to long) (sym (high no_less))
    (wire_over from to long by has x no_less))

-- a detour along y
pub wire_beside : (from to : Point) (long by : ℤ) → HasDetour from to long by → from.x ≡ to.x
    → from.y ≢ to.y → IsEdgeWire from to long (shown 4 (beside from to by))
wire_beside from to long by has x y = record {
  drawn = drawn_beside from to long by has x y;
  points = record {
    none = λ none. absurd (not_nothing from to long by has none);
    straight = λ _ is _. absurd (no_detour from to long by is has);
    bent = λ is _ _. absurd (no_detour from to long by is has);
    under = λ _ _ differ _. absurd (differ x);
    over = λ _ _ differ _. absurd (differ x);
    beside = λ other others _ _. ap (beside from to) (same_detour from to long by other has others);
    round = λ _ _ _ same. absurd (y same);
  };
  padded = record { all = refl; rest = origins 1 };
  used = (omega arith, omega arith);
}

-- a square
pub wire_round : (from to : Point) (long side : ℤ) → HasDetour from to long (side +ℤ side)
    → from.x ≡ to.x → from.y ≡ to.y → IsEdgeWire from to long (shown 5 (round from side))
wire_round from to long side has x y = record {
  drawn = drawn_round from to long side has x y;
  points = record {
    none = λ none. absurd (not_nothing from to long (side +ℤ side) has none);
    straight = λ _ is _. absurd (no_detour from to long (side +ℤ side) is has);
    bent = λ is _ _. absurd (no_detour from to long (side +ℤ side) is has);
    under = λ _ _ differ _. absurd (differ x);
    over = λ _ _ differ _. absurd (differ x);
    beside = λ _ _ _ differ. absurd (differ y);
    round = λ other others _ _. ap (round from) (same_side from to long side other has others);
  };
  padded = record { all = refl; rest = origins 0 };
  used = (omega arith, omega arith);
}
