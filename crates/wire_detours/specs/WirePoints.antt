-- Which of the drawn wires an edge gets. Where it is longer than the distance, it has a detour of
-- half of what is beyond (snaking), on the side where the node isn't: Boese and Kahng 1992; Chao
-- and others 1992.
use Rattle.std.specs.Prelude.{◌≡◌, ◌≢◌, ◌⊎◌, ℕ, ◌-◌, List, [], ◌∷◌, ◌++◌, replicate, ℤ, pos, ◌+ℤ◌, ◌-ℤ◌, ◌<ℤ◌, ◌≤ℤ◌}
use Rattle.cts_model.specs.declared.place.Point.{Point}
use Rattle.cts_model.specs.declared.tree.Wire.{Wire}
use Rattle.cts_model.specs.Vocabulary.{distance}

-- the point with these coordinates
abbrev pub at : ℤ → ℤ → Point
at x y = record { x = x; y = y }

-- what stands past the points of a wire
abbrev pub origin : Point
origin = at (pos 0) (pos 0)

-- the wire of so many points
abbrev pub shown : ℕ → List Point → Wire
shown used points = record { corners = points ++ replicate (5 - used) origin; used = used }

-- along x, then along y
abbrev pub bent : Point → Point → List Point
bent from to = from ∷ at to.x from.y ∷ to ∷ []

-- so far down, along x, and up
abbrev pub under : Point → Point → ℤ → List Point
under from to by = from ∷ at from.x (from.y -ℤ by) ∷ at to.x (from.y -ℤ by) ∷ to ∷ []

-- so far up, along x, and down
abbrev pub over : Point → Point → ℤ → List Point
over from to by = from ∷ at from.x (from.y +ℤ by) ∷ at to.x (from.y +ℤ by) ∷ to ∷ []

-- so far to the right, along y, and back
abbrev pub beside : Point → Point → ℤ → List Point
beside from to by = from ∷ at (from.x +ℤ by) from.y ∷ at (from.x +ℤ by) to.y ∷ to ∷ []

-- round a square to the right and above
abbrev pub round : Point → ℤ → List Point
round from side = from ∷ at (from.x +ℤ side) from.y ∷ at (from.x +ℤ side) (from.y +ℤ side)
    ∷ at from.x (from.y +ℤ side) ∷ from ∷ []

-- the length is the distance and twice the detour, which isn't nothing
pub record HasDetour (from to : Point) (long detour : ℤ) : Type 0 where
  pub positive : pos 0 <ℤ detour
  pub twice : distance from to +ℤ detour +ℤ detour ≡ long

-- the points of the wire, case by case
pub record ArePoints (from to : Point) (long : ℤ) (points : List Point) : Type 0 where
  pub none : long ≡ pos 0 → points ≡ from ∷ []
  pub straight : pos 0 <ℤ long → long ≡ distance from to
      → (from.x ≡ to.x) ⊎ (from.y ≡ to.y) → points ≡ from ∷ to ∷ []
  pub bent : long ≡ distance from to → from.x ≢ to.x → from.y ≢ to.y → points ≡ bent from to
  pub under : (detour : ℤ) → HasDetour from to long detour → from.x ≢ to.x → from.y <ℤ to.y
      → points ≡ under from to detour
  pub over : (detour : ℤ) → HasDetour from to long detour → from.x ≢ to.x → to.y ≤ℤ from.y
      → points ≡ over from to detour
  pub beside : (detour : ℤ) → HasDetour from to long detour → from.x ≡ to.x → from.y ≢ to.y
      → points ≡ beside from to detour
  -- the detour is half of the length, and each side half of the detour
  pub round : (side : ℤ) → HasDetour from to long (side +ℤ side) → from.x ≡ to.x
      → from.y ≡ to.y → points ≡ round from side
