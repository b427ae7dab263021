-- The wires of each case are drawn wires.
use Rattle.wire_detours.proofs.Vocabulary.{◌≡◌, ◌≢◌, [], ◌∷◌, All, AllPairs, Some, inl, inr, ℤ, pos, ◌+ℤ◌, ◌-ℤ◌, ◌≤ℤ◌, ◌<ℤ◌, refl, sym, ap, arith, ints, All-nil, All-cons, Point, apart, distance, Piece, pieces, total, IsStraight, AreApart, IsDrawn, at, bent, under, over, beside, round, HasDetour}
use Rattle.std.proofs.lemmas.List.Kept.{AllPairs-cons}
use Rattle.wire_detours.proofs.PieceLemmas.{same_point, upright_level, level_upright, both_upright, both_level, apart_same, apart_up, apart_down, apart_above, apart_below, differs_above, differs_back, apart_back, apart_least, apart_more}

-- ---- lists of few pieces

-- no pieces share no points
pairs_none : AllPairs AreApart []
pairs_none = λ i j d before within. absurd (omega arith)

-- one piece has none to share a point with
pairs_one : (piece : Piece) → AllPairs AreApart (piece ∷ [])
pairs_one piece = AllPairs-cons AreApart piece [] (All-nil (AreApart piece)) pairs_none

-- what holds of one piece holds of all of one
all_one : (P : Piece → Type 0) (first : Piece) → P first → All P (first ∷ [])
all_one P first holds = All-cons P first [] holds (All-nil P)

-- of all of two
all_two : (P : Piece → Type 0) (first second : Piece) → P first → P second
    → All P (first ∷ second ∷ [])
all_two P first second holds next = All-cons P first (second ∷ []) holds (all_one P second next)

-- of all of three
all_three : (P : Piece → Type 0) (first second third : Piece) → P first → P second → P third
    → All P (first ∷ second ∷ third ∷ [])
all_three P first second third holds next last = All-cons P first (second ∷ third ∷ []) holds
    (all_two P second third next last)

-- and of all of four
all_four : (P : Piece → Type 0) (first second third fourth : Piece) → P first → P second
    → P third → P fourth → All P (first ∷ second ∷ third ∷ fourth ∷ [])
all_four P first second third fourth holds next more last = All-cons P first
    (second ∷ third ∷ fourth ∷ []) holds (all_three P second third fourth next more last)

-- two pieces that are apart are so two by two
pairs_two : (first second : Piece) → AreApart first second → AllPairs AreApart (first ∷ second ∷ [])
pairs_two first second next = AllPairs-cons AreApart first (second ∷ []) (all_one
    (AreApart first) second next) (pairs_one second)

-- three of which each two are apart
pairs_three : (first second third : Piece) → AreApart first second → AreApart first third
    → AreApart second third → AllPairs AreApart (first ∷ second ∷ third ∷ [])
pairs_three first second third next far last = AllPairs-cons AreApart first
    (second ∷ third ∷ []) (all_two (AreApart first) second third next far)
    (pairs_two second third last)

-- and four
pairs_four : (first second third fourth : Piece) → AreApart first second → AreApart first third
    → AreApart first fourth → AreApart second third → AreApart second fourth
    → AreApart third fourth → AllPairs AreApart (first ∷ second ∷ third ∷ fourth ∷ [])
pairs_four first second third fourth next far last after beyond end =
    AllPairs-cons AreApart first (second ∷ third ∷ fourth ∷ []) (all_three
    (AreApart first) second third fourth next far last)
    (pairs_three second third fourth after beyond end)

-- ---- the cases

-- the piece between two points
abbrev piece : Point → Point → Piece
piece from to = record { from = from; to = to }

-- a place alone
pub drawn_place : (from to : Point) (long : ℤ) → from.x ≡ to.x → from.y ≡ to.y → long ≡ pos 0
    → IsDrawn from to long (from ∷ [])
drawn_place from to long x y none = record {
  some = omega arith;
  few = omega arith;
  begins = refl;
  ends = ap Some (same_point x y);
  straight = All-nil IsStraight;
  sum = sym none;
  apart = pairs_none;
  no_length = λ _. refl;
}

-- straight up or down
pub drawn_upright : (from to : Point) (long : ℤ) → from.x ≡ to.x → from.y ≢ to.y
    → long ≡ distance from to → IsDrawn from to long (from ∷ to ∷ [])
drawn_upright from to long x y is =
    let least = apart_least from.x to.x in
    let more = apart_more from.y to.y y in
    record {
      some = omega arith;
      few = omega arith;
      begins = refl;
      ends = refl;
      straight = all_one IsStraight (piece from to) (inl (x, y));
      sum = omega (arith, ints);
      apart = pairs_one (piece from to);
      no_length = λ none. absurd (omega (arith, ints));
    }

-- straight to a side
pub drawn_level : (from to : Point) (long : ℤ) → from.x ≢ to.x → from.y ≡ to.y
    → long ≡ distance from to → IsDrawn from to long (from ∷ to ∷ [])
drawn_level from to long x y is =
    let least = apart_least from.y to.y in
    let more = apart_more from.x to.x x in
    record {
      some = omega arith;
      few = omega arith;
      begins = refl;
      ends = refl;
      straight = all_one IsStraight (piece from to) (inr (x, y));
      sum = omega (arith, ints);
      apart = pairs_one (piece from to);
      no_length = λ none. absurd (omega (arith, ints));
    }

-- along x and then along y
pub drawn_bent : (from to : Point) (long : ℤ) → from.x ≢ to.x → from.y ≢ to.y
    → long ≡ distance from to → IsDrawn from to long (bent from to)
drawn_bent from to long x y is =
    let more = apart_more from.x to.x x in
    let high = apart_more from.y to.y y in
    let level = apart_same from.y from.y refl in
    let upright = apart_same to.x to.x refl in
    let turn = at to.x from.y in
    record {
      some = omega arith;
      few = omega arith;
      begins = refl;
      ends = refl;
      straight = all_two IsStraight (piece from turn) (piece turn to)
          (inr (x, refl)) (inl (refl, y));
      sum = omega (arith, ints);
      apart = pairs_two (piece from turn) (piece turn to)
          (level_upright (piece from turn) (piece turn to) refl refl);
      no_length = λ none. absurd (omega (arith, ints));
    }

-- to a level above or below both, along x, and back
drawn_across : (from to : Point) (long y : ℤ) → from.x ≢ to.x → from.y ≢ y → y ≢ to.y
    → long ≢ pos 0 → total (pieces (from ∷ at from.x y ∷ at to.x y ∷ to ∷ [])) ≡ long
    → IsDrawn from to long (from ∷ at from.x y ∷ at to.x y ∷ to ∷ [])
drawn_across from to long y x out back some sum =
    let turn = at from.x y in
    let next = at to.x y in
    record {
      some = omega arith;
      few = omega arith;
      begins = refl;
      ends = refl;
      straight = all_three IsStraight (piece from turn) (piece turn next) (piece next to)
          (inl (refl, out)) (inr (x, refl)) (inl (refl, back));
      sum = sum;
      apart = pairs_three (piece from turn) (piece turn next) (piece next to)
          (upright_level (piece from turn) (piece turn next) refl refl)
          (both_upright (piece from turn) (piece next to) refl refl x)
          (level_upright (piece turn next) (piece next to) refl refl);
      no_length = λ none. absurd (some none);
    }

-- down, along x, and up
pub drawn_under : (from to : Point) (long by : ℤ) → HasDetour from to long by → from.x ≢ to.x
    → from.y <ℤ to.y → IsDrawn from to long (under from to by)
drawn_under from to long by has x less =
    let first = apart_same from.x from.x refl in
    let down = apart_below from.y by has.positive in
    let level = apart_same (from.y -ℤ by) (from.y -ℤ by) refl in
    let last = apart_same to.x to.x refl in
    let back : apart (from.y -ℤ by) to.y ≡ to.y -ℤ (from.y -ℤ by) =
    apart_up (from.y -ℤ by) to.y (omega (arith, ints, has.positive, less)) in
    let high : apart from.y to.y ≡ to.y -ℤ from.y =
    apart_up from.y to.y (omega (arith, ints, less)) in
    let more = apart_more from.x to.x x in
    drawn_across from to long (from.y -ℤ by) x (λ same. omega (arith, ints, has.positive, same))
    (λ same. omega (arith, ints, has.positive, less, same)) (λ none. omega (arith, ints))
    (omega (arith, ints))

-- and up first
pub drawn_over : (from to : Point) (long by : ℤ) → HasDetour from to long by → from.x ≢ to.x
    → to.y ≤ℤ from.y → IsDrawn from to long (over from to by)
drawn_over from to long by has x less =
    let first = apart_same from.x from.x refl in
    let out = apart_above from.y by has.positive in
    let level = apart_same (from.y +ℤ by) (from.y +ℤ by) refl in
    let last = apart_same to.x to.x refl in
    let back : apart (from.y +ℤ by) to.y ≡ (from.y +ℤ by) -ℤ to.y =
    apart_down (from.y +ℤ by) to.y (omega (arith, ints, has.positive, less)) in
    let high : apart from.y to.y ≡ from.y -ℤ to.y = apart_down from.y to.y less in
    let more = apart_more from.x to.x x in
    drawn_across from to long (from.y +ℤ by) x (λ same. omega (arith, ints, has.positive, same))
    (λ same. omega (arith, ints, has.positive, less, same)) (λ none. omega (arith, ints))
    (omega (arith, ints))

-- to the side, along y, and back
pub drawn_beside : (from to : Point) (long by : ℤ) → HasDetour from to long by → from.x ≡ to.x
    → from.y ≢ to.y → IsDrawn from to long (beside from to by)
drawn_beside from to long by has x y =
    let first = apart_same from.y from.y refl in
    let out = apart_above from.x by has.positive in
    let upright = apart_same (from.x +ℤ by) (from.x +ℤ by) refl in
    let last = apart_same to.y to.y refl in
    let back : apart (from.x +ℤ by) to.x ≡ (from.x +ℤ by) -ℤ to.x =
    apart_down (from.x +ℤ by) to.x (omega (arith, ints, has.positive, x)) in
    let none_wide = apart_same from.x to.x x in
    let more = apart_more from.y to.y y in
    let turn = at (from.x +ℤ by) from.y in
    let next = at (from.x +ℤ by) to.y in
    record {
      some = omega arith;
      few = omega arith;
      begins = refl;
      ends = refl;
      straight = all_three IsStraight (piece from turn) (piece turn next) (piece next to)
          (inr (λ same. omega (arith, ints, has.positive, same), refl)) (inl (refl, y))
          (inr (λ same. omega (arith, ints, has.positive, x, same), refl));
      sum = omega (arith, ints);
      apart = pairs_three (piece from turn) (piece turn next) (piece next to)
          (level_upright (piece from turn) (piece turn next) refl refl)
          (both_level (piece from turn) (piece next to) refl refl y)
          (upright_level (piece turn next) (piece next to) refl refl);
      no_length = λ none. absurd (omega (arith, ints));
    }

-- round a square
pub drawn_round : (from to : Point) (long side : ℤ) → HasDetour from to long (side +ℤ side)
    → from.x ≡ to.x → from.y ≡ to.y → IsDrawn from to long (round from side)
drawn_round from to long side has x y =
    let positive : pos 0 <ℤ side = omega (arith, ints, has.positive) in
    let low = apart_same from.y from.y refl in
    let out = apart_above from.x side positive in
    let far_side = apart_same (from.x +ℤ side) (from.x +ℤ side) refl in
    let up = apart_above from.y side positive in
    let high = apart_same (from.y +ℤ side) (from.y +ℤ side) refl in
    let back = apart_back from.x side positive in
    let near_side = apart_same from.x from.x refl in
    let down = apart_back from.y side positive in
    let width = apart_same from.x to.x x in
    let height = apart_same from.y to.y y in
    let right = at (from.x +ℤ side) from.y in
    let far = at (from.x +ℤ side) (from.y +ℤ side) in
    let left = at from.x (from.y +ℤ side) in
    record {
      some = omega arith;
      few = omega arith;
      begins = refl;
      ends = ap Some (same_point x y);
      straight = all_four IsStraight (piece from right) (piece right far) (piece far left)
          (piece left from)
          (inr (differs_above from.x side positive, refl))
          (inl (refl, differs_above from.y side positive))
          (inr (differs_back from.x side positive, refl))
          (inl (refl, differs_back from.y side positive));
      sum = omega (arith, ints);
      apart = pairs_four (piece from right) (piece right far) (piece far left) (piece left from)
          (level_upright (piece from right) (piece right far) refl refl)
          (both_level (piece from right) (piece far left) refl refl
          (differs_above from.y side positive))
          (level_upright (piece from right) (piece left from) refl refl)
          (upright_level (piece right far) (piece far left) refl refl)
          (both_upright (piece right far) (piece left from) refl refl
          (differs_back from.x side positive))
          (level_upright (piece far left) (piece left from) refl refl);
      no_length = λ none. absurd (omega (arith, ints));
    }
