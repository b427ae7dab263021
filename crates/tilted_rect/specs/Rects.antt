-- Tilted rectangles as sets of points, as deferred merging has them: Boese and Kahng 1992; Chao and
-- others 1992. A point is given by its numerators over a scale, so that all fractions are meant.
use Rattle.std.specs.Prelude.{◌≡◌, ℕ, ℤ, pos, ◌+ℤ◌, ◌-ℤ◌, ◌*ℤ◌, ◌≤ℤ◌}
use Rattle.std.specs.Int.{int_max}
use Rattle.cts_model.specs.declared.place.Uv.{Uv}
use Rattle.cts_model.specs.Vocabulary.{IsBelow, apart, rotated_distance, scaled}
use Rattle.tilted_rect.specs.Corners.{bound}
use Rattle.tilted_rect.specs.Intervals.{between, clamped}
use Rattle.tilted_rect.specs.declared.rect.Rect.{Rect}

-- the point is in the rectangle, its border included
pub record Holds (rect : Rect) (scale : ℕ) (at : Uv) : Type 0 where
  pub ulo : (pos scale *ℤ rect.ulo) ≤ℤ at.u
  pub uhi : at.u ≤ℤ (pos scale *ℤ rect.uhi)
  pub vlo : (pos scale *ℤ rect.vlo) ≤ℤ at.v
  pub vhi : at.v ≤ℤ (pos scale *ℤ rect.vhi)

-- the point is in both rectangles
pub record HoldBoth (rect other : Rect) (scale : ℕ) (at : Uv) : Type 0 where
  pub first : Holds rect scale at
  pub second : Holds other scale at

-- some point of the rectangle is no further than that
pub record IsNear (rect : Rect) (by : ℤ) (scale : ℕ) (at : Uv) : Type 0 where
  pub from : Uv
  pub holds : Holds rect scale from
  pub near : rotated_distance from at ≤ℤ (pos scale *ℤ by)

-- the rectangle has these sides
pub record HasSides (rect : Rect) (least_u greatest_u least_v greatest_v : ℤ) : Type 0 where
  pub ulo : rect.ulo ≡ least_u
  pub uhi : rect.uhi ≡ greatest_u
  pub vlo : rect.vlo ≡ least_v
  pub vhi : rect.vhi ≡ greatest_v

-- grown by so much it stays below the bound
pub record CanGrowBy (rect : Rect) (by : ℤ) : Type 0 where
  pub ulo : IsBelow bound (rect.ulo -ℤ by)
  pub uhi : IsBelow bound (rect.uhi +ℤ by)
  pub vlo : IsBelow bound (rect.vlo -ℤ by)
  pub vhi : IsBelow bound (rect.vhi +ℤ by)

-- how far two rectangles are apart: the greater of how far they are apart in u and in v
abbrev pub gap_of : Rect → Rect → ℤ
gap_of rect other =
    int_max (between rect.ulo rect.uhi other.ulo other.uhi)
    (between rect.vlo rect.vhi other.vlo other.vhi)

-- no two points of the rectangles are closer, and two are no further apart
pub record IsLeastDistance (rect other : Rect) (gap : ℤ) : Type 0 where
  pub least : (scale : ℕ) (from to : Uv) → Holds rect scale from → Holds other scale to
      → (pos scale *ℤ gap) ≤ℤ rotated_distance from to
  pub from : Uv
  pub to : Uv
  pub from_held : Holds rect 1 from
  pub to_held : Holds other 1 to
  pub shown : rotated_distance from to ≡ gap

-- the point with u and v moved into the rectangle, each by itself
abbrev pub clamped_into : Rect → Uv → Uv
clamped_into rect to =
    record { u = clamped rect.ulo rect.uhi to.u; v = clamped rect.vlo rect.vhi to.v }

-- the point is in the rectangle, and no point of it is nearer, in u, in v and by the distance
pub record IsNearest (rect : Rect) (to found : Uv) : Type 0 where
  pub holds : Holds rect 1 found
  pub u : (scale : ℕ) (at : Uv) → Holds rect scale at
      → (pos scale *ℤ apart to.u found.u) ≤ℤ apart (pos scale *ℤ to.u) at.u
  pub v : (scale : ℕ) (at : Uv) → Holds rect scale at
      → (pos scale *ℤ apart to.v found.v) ≤ℤ apart (pos scale *ℤ to.v) at.v
  pub least : (scale : ℕ) (at : Uv) → Holds rect scale at
      → (pos scale *ℤ rotated_distance to found) ≤ℤ rotated_distance (scaled scale to) at
