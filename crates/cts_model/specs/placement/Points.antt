-- Points of the plane, and the same points in coordinates rotated by 45 degrees, as they serve
-- deferred merging: Boese and Kahng 1992; Chao and others 1992. Wires run along x and y, so the
-- distance of two points is the Manhattan distance. A definition speaks of whole numbers; taken as
-- numerators over one denominator, the scale, they are all fractions.
use Rattle.std.specs.Prelude.{◌≡◌, ℕ, ◌%◌, ℤ, pos, ◌+ℤ◌, ◌-ℤ◌, ◌*ℤ◌, nat_abs}
use Rattle.std.specs.Int.{int_max}
use Rattle.cts_model.specs.Types.{Point, Uv}
pub use Rattle.cts_base.specs.Fractions.{IsBelow}

-- the number is that many times a whole number
abbrev pub IsMultipleOf : ℕ → ℤ → Type 0
IsMultipleOf step number = nat_abs number % step ≡ 0

-- both coordinates are below the bound in size
pub record IsPointBelow (bound : ℕ) (point : Point) : Type 0 where
  pub x : IsBelow bound point.x
  pub y : IsBelow bound point.y

pub record IsUvBelow (bound : ℕ) (at : Uv) : Type 0 where
  pub u : IsBelow bound at.u
  pub v : IsBelow bound at.v

-- both coordinates are multiples of that step
pub record IsUvMultipleOf (step : ℕ) (at : Uv) : Type 0 where
  pub u : IsMultipleOf step at.u
  pub v : IsMultipleOf step at.v

pub record IsPointMultipleOf (step : ℕ) (point : Point) : Type 0 where
  pub x : IsMultipleOf step point.x
  pub y : IsMultipleOf step point.y

-- how far two numbers are apart
abbrev pub apart : ℤ → ℤ → ℤ
apart a b = int_max (a -ℤ b) (b -ℤ a)

-- the Manhattan distance of two points
abbrev pub distance : Point → Point → ℤ
distance a b = apart a.x b.x +ℤ apart a.y b.y

-- the point in rotated coordinates
abbrev pub rotated : Point → Uv
rotated point = record { u = point.x +ℤ point.y; v = point.x -ℤ point.y }

-- the distance of two points by their rotated coordinates: the greater of the two differences
abbrev pub rotated_distance : Uv → Uv → ℤ
rotated_distance a b = int_max (apart a.u b.u) (apart a.v b.v)

-- the point by its numerators over that scale
abbrev pub scaled : ℕ → Uv → Uv
scaled scale at = record { u = pos scale *ℤ at.u; v = pos scale *ℤ at.v }
