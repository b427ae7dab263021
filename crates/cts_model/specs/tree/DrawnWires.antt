-- Wires of tree edges as they are drawn, along x and y, with detours where an edge is longer than
-- the way (snaking): Boese and Kahng 1992; Chao and others 1992. Coordinates are grid steps.
use Rattle.std.specs.Prelude.{◌≡◌, ◌≢◌, ◌⊎◌, ℕ, ◌<◌, ◌≤◌, ◌-◌, List, [], ◌∷◌, length, drop, All, AllPairs, Some, slice_get, ℤ, pos, ◌+ℤ◌, ◌*ℤ◌, ◌≤ℤ◌}
use Rattle.std.specs.Int.{int_max, int_min}
use Rattle.cts_model.specs.Types.{Point, Wire}
use Rattle.cts_model.specs.placement.Points.{distance}

-- a straight part of a wire, from one point of it to the next
pub record Piece : Type 0 where
  pub from : Point
  pub to : Point

-- the pieces from each point to the next
abbrev pub pieces : List Point → List Piece
pieces [] = []
pieces (from ∷ []) = []
pieces (from ∷ to ∷ more) = record { from = from; to = to } ∷ pieces (to ∷ more)

-- how long pieces are together
abbrev pub total : List Piece → ℤ
total [] = pos 0
total (piece ∷ more) = distance piece.from piece.to +ℤ total more

-- the two ends differ in exactly one coordinate
abbrev pub IsStraight : Piece → Type 0
IsStraight piece = ((piece.from.x ≡ piece.to.x) × (piece.from.y ≢ piece.to.y))
    ⊎ ((piece.from.x ≢ piece.to.x) × (piece.from.y ≡ piece.to.y))

-- the number is one of the two or between them
pub record IsBetween (one other number : ℤ) : Type 0 where
  pub least : int_min one other ≤ℤ number
  pub greatest : number ≤ℤ int_max one other

-- the point, given by its numerators over that scale, is on the piece
pub record IsOn (scale : ℕ) (at : Point) (piece : Piece) : Type 0 where
  pub x : IsBetween (pos scale *ℤ piece.from.x) (pos scale *ℤ piece.to.x) at.x
  pub y : IsBetween (pos scale *ℤ piece.from.y) (pos scale *ℤ piece.to.y) at.y

-- two pieces have at most one point in common, fractions included
abbrev pub AreApart : Piece → Piece → Type 0
AreApart piece other = (scale : ℕ) (one two : Point) → 0 < scale
    → IsOn scale one piece → IsOn scale one other → IsOn scale two piece → IsOn scale two other
    → one ≡ two

-- the points are those of a wire of that length from the one place to the other. It has at most 5
-- points: a detour round a square has as many.
pub record IsDrawn (from to : Point) (long : ℤ) (points : List Point) : Type 0 where
  pub some : 1 ≤ length points
  pub few : length points ≤ 5
  pub begins : slice_get points 0 ≡ Some from
  pub ends : slice_get points (length points - 1) ≡ Some to
  pub straight : All IsStraight (pieces points)
  pub sum : total (pieces points) ≡ long
  pub apart : AllPairs AreApart (pieces points)
  pub no_length : long ≡ pos 0 → points ≡ from ∷ []

-- after the points of a wire there is nothing but (0, 0)
pub record ArePadded (wire : Wire) : Type 0 where
  pub all : length wire.corners ≡ 5
  pub rest : All (λ corner. corner ≡ record { x = pos 0; y = pos 0 })
      (drop wire.used wire.corners)
