-- What a drawn wire is judged by: Boese and Kahng 1992; Chao and others 1992.
use Rattle.std.specs.Prelude.{◌≡◌, ◌⊎◌, ◌-◌, ◌<ℤ◌, ℤ, pos, List, All, AllPairs, Some, length, slice_get}
use Rattle.std.specs.Int.{int_max, int_min}
use Rattle.cts_model.specs.declared.place.Point.{Point}
use Rattle.cts_model.specs.Vocabulary.{AreApart, IsStraight, Piece, pieces, total}

-- the piece between two points
abbrev pub piece : (from to : Point) → Piece
piece from to = record { from = from; to = to }

-- the least and the greatest number between the two and between the two others, if there are any
abbrev pub least_common : (from to start end : ℤ) → ℤ
least_common from to start end = int_max (int_min from to) (int_min start end)

abbrev pub greatest_common : (from to start end : ℤ) → ℤ
greatest_common from to start end = int_min (int_max from to) (int_max start end)

-- nothing is common along one axis, or along the other, or one number along each
abbrev pub Share : (left right low high : ℤ) → Type 0
Share left right low high =
    (right <ℤ left) ⊎ ((high <ℤ low) ⊎ ((left ≡ right) × (low ≡ high)))

-- the points begin at the one place and end at the other
pub record AreEnds (from to : Point) (points : List Point) : Type 0 where
  pub begins : slice_get points 0 ≡ Some from
  pub ends : slice_get points (length points - 1) ≡ Some to

-- the way through the points runs along x and y, and shares no points with itself
pub record IsFree (points : List Point) : Type 0 where
  pub straight : All IsStraight (pieces points)
  pub apart : AllPairs AreApart (pieces points)

-- it is that long besides, and a point alone where that is 0
pub record IsWay (long : ℤ) (points : List Point) : Type 0 where
  pub free : IsFree points
  pub sum : total (pieces points) ≡ long
  pub alone : long ≡ pos 0 → length points ≡ 1
