-- The pieces of a way from a point through others, the first by itself.
use Rattle.cert_check.proofs.Vocabulary.{◌≡◌, ◌↔◌, ◌<◌, ◌≤◌, ◌+◌, ◌-◌, ◌*◌, ◌^◌, Bool, false, ℕ, List, [], ◌∷◌, suc, All, AllPairs, Some, IsTrue, length, get_or, take, drop, ℤ, pos, ◌+ℤ◌, ◌≤ℤ◌, sym, ap, ◌∙◌, arith, slice_get, false≢true, ints, clamps, slice_get-get_or, get_or_from_slice_get, take_rest, All-cons, Point, AreApart, IsDrawn, Piece, pieces, total, IsBelow, IsPointBelow, apart, distance, AreEnds, IsWay, piece}
use Rattle.std.proofs.lemmas.List.Kept.{AllPairs-cons}

-- the point that stands where there is none
abbrev pub origin : Point
origin = record { x = pos 0; y = pos 0 }

-- the first of points, and the others
abbrev pub head : List Point → Point
head points = get_or points 0 origin

abbrev pub others : List Point → List Point
others points = take (length points - 1) (drop 1 points)

-- they are all
pub points_are : (points : List Point) → 1 ≤ length points → points ≡ head points ∷ others points
points_are [] some = absurd (omega (arith, some))
points_are (first ∷ more) some = ap (λ rest. first ∷ rest) (sym (take_rest (first ∷ more) 1))

-- and one less than all
pub length-others : (points : List Point) → 1 ≤ length points
    → length (others points) + 1 ≡ length points
length-others points some = omega (arith, ap length (points_are points some))

-- the first piece of a way goes to the first of the points
pieces-more : (from : Point) (points : List Point) → 1 ≤ length points
    → pieces (from ∷ points) ≡ piece from (head points) ∷ pieces (head points ∷ others points)
pieces-more from points some = ap (λ all. pieces (from ∷ all)) (points_are points some)

-- what holds of all of a list holds of the first and of the rest
all_first : (P : Piece → Type 0) (first : Piece) (rest : List Piece) → All P (first ∷ rest)
    → P first
all_first P first rest all = all 0 first (omega arith)

all_rest : (P : Piece → Type 0) (first : Piece) (rest : List Piece) → All P (first ∷ rest)
    → All P rest
all_rest P first rest all place default within = all (suc place) default (omega arith)

-- and so what holds of each two
pairs_first : (first : Piece) (rest : List Piece) → AllPairs AreApart (first ∷ rest)
    → All (AreApart first) rest
pairs_first first rest all place default within =
    all 0 (suc place) default (omega arith) (omega arith)

pairs_rest : (first : Piece) (rest : List Piece) → AllPairs AreApart (first ∷ rest)
    → AllPairs AreApart rest
pairs_rest first rest all place later default before within =
    all (suc place) (suc later) default (omega arith) (omega arith)

module _ (from : Point) (points : List Point) (some : 1 ≤ length points) where
  abbrev first : Piece
  first = piece from (head points)

  abbrev rest : List Piece
  rest = pieces (head points ∷ others points)

  module _ (P : Piece → Type 0) where
    -- where it holds of the first piece, it holds of all exactly where it does of the others
    pub all_pieces : P first → (holds : Bool) → (IsTrue holds ↔ All P rest)
        → (IsTrue holds ↔ All P (pieces (from ∷ points)))
    all_pieces one holds same = rw (pieces-more from points some) (
      λ is. All-cons P first rest one (same.0 is),
      λ all. same.1 (all_rest P first rest all),
    )

    -- and else not
    pub not_all_pieces : (holds : Bool) → (IsTrue holds ↔ P first) → holds ≡ false
        → (IsTrue holds ↔ All P (pieces (from ∷ points)))
    not_all_pieces holds same fails = rw (pieces-more from points some) (
      λ is. absurd (false≢true (sym fails ∙ is)),
      λ all. same.1 (all_first P first rest all),
    )

  -- where the first piece is apart from all others, all are exactly where the others are
  pub pairs_pieces : All (AreApart first) rest → (holds : Bool)
      → (IsTrue holds ↔ AllPairs AreApart rest)
      → (IsTrue holds ↔ AllPairs AreApart (pieces (from ∷ points)))
  pairs_pieces one holds same = rw (pieces-more from points some) (
    λ is. AllPairs-cons AreApart first rest one (same.0 is),
    λ all. same.1 (pairs_rest first rest all),
  )

  -- and else not
  pub not_pairs_pieces : (holds : Bool) → (IsTrue holds ↔ All (AreApart first) rest)
      → holds ≡ false → (IsTrue holds ↔ AllPairs AreApart (pieces (from ∷ points)))
  not_pairs_pieces holds same fails = rw (pieces-more from points some) (
    λ is. absurd (false≢true (sym fails ∙ is)),
    λ all. same.1 (pairs_first first rest all),
  )

  -- the way is as long as its first piece and the others
  pub total-more : total (pieces (from ∷ points)) ≡ distance from (head points) +ℤ total rest
  total-more = ap total (pieces-more from points some)

-- two numbers below the bound are less than its double apart
apart_within : (a b : ℤ) → IsBelow (10 ^ 32) a → IsBelow (10 ^ 32) b
    → (pos 0 ≤ℤ apart a b) × (apart a b ≤ℤ pos (2 * 10 ^ 32))
apart_within a b one other = search (arith, ints, clamps)

-- so two points aren't further from one another than four times that
pub distance_within : (from to : Point) (far : ℤ) → far ≡ distance from to
    → IsPointBelow (10 ^ 32) from → IsPointBelow (10 ^ 32) to
    → (pos 0 ≤ℤ far) × (far ≤ℤ pos (4 * 10 ^ 32))
distance_within from to far is one other =
    let x = apart_within from.x to.x one.x other.x in
    let y = apart_within from.y to.y one.y other.y in
    (omega (arith, ints, x.0, y.0, is), omega (arith, ints, x.1, y.1, is))

-- points between two ends that are those of a way are those of a drawn wire
drawn_by_way : (from to : Point) (long : ℤ) (points : List Point) → 1 ≤ length points
    → length points ≤ 5 → AreEnds from to points → IsWay long points → IsDrawn from to long points
drawn_by_way from to long points some few ends way = record {
  some = some;
  few = few;
  begins = ends.begins;
  ends = ends.ends;
  straight = way.free.straight;
  sum = way.sum;
  apart = way.free.apart;
  no_length = λ none. one_point points ends.begins (way.alone none);
}
  where
    one_point : (points : List Point) → slice_get points 0 ≡ Some from → length points ≡ 1
        → points ≡ from ∷ []
    one_point [] begins one = absurd (omega (arith, one))
    one_point (first ∷ []) begins one = let is : first ≡ from = cc in ap (λ at. at ∷ []) is
    one_point (first ∷ second ∷ more) begins one = absurd (omega (arith, one))

-- and the other way round
way_by_drawn : (from to : Point) (long : ℤ) (points : List Point)
    → IsDrawn from to long points → AreEnds from to points × IsWay long points
way_by_drawn from to long points drawn = search arith

-- so where the ends are right, they are exactly where the points are those of a way
pub drawn_exactly : (from to : Point) (long : ℤ) (points : List Point) → 1 ≤ length points
    → length points ≤ 5 → AreEnds from to points → (holds : Bool)
    → (IsTrue holds ↔ IsWay long points) → (IsTrue holds ↔ IsDrawn from to long points)
drawn_exactly from to long points some few ends holds same =
    search (arith, drawn_by_way, way_by_drawn)

-- a point that is read is there
point_here : (points : List Point) (place : ℕ) (at : Point) → place < length points
    → get_or points place origin ≡ at → slice_get points place ≡ Some at
point_here points place at within is = slice_get-get_or points place origin within ∙ ap Some is

-- where the first point is right, the ends are exactly where the last is
pub ends_by_points : (from to : Point) (points : List Point) → 1 ≤ length points
    → get_or points 0 origin ≡ from → (holds : Bool)
    → (IsTrue holds ↔ (get_or points (length points - 1) origin ≡ to))
    → (IsTrue holds ↔ AreEnds from to points)
ends_by_points from to points some begins holds same =
    search (arith, point_here, get_or_from_slice_get)

-- and else not
pub not_ends_by_points : (from to : Point) (points : List Point) → 1 ≤ length points
    → (holds : Bool) → (IsTrue holds ↔ (get_or points 0 origin ≡ from)) → holds ≡ false
    → (IsTrue holds ↔ AreEnds from to points)
not_ends_by_points from to points some holds same fails = search (arith, get_or_from_slice_get)
