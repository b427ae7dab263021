-- What a tilted rectangle keeps of its sides, in rotated coordinates and grid steps.
use Rattle.std.specs.Prelude.{ℕ, ◌^◌, ℤ, ◌≤ℤ◌}
use Rattle.cts_model.specs.Vocabulary.{IsBelow, IsMultipleOf}

-- what stays below this in size leaves room for a few sums
abbrev pub bound : ℕ
bound = 10 ^ 33

-- at multiples of 4 in both rotated coordinates the plain ones are multiples of 2
pub record IsSide (at : ℤ) : Type 0 where
  pub below : IsBelow bound at
  pub multiple : IsMultipleOf 4 at

pub record IsRect (ulo uhi vlo vhi : ℤ) : Type 0 where
  pub u_ordered : ulo ≤ℤ uhi
  pub v_ordered : vlo ≤ℤ vhi
  pub least_u : IsSide ulo
  pub greatest_u : IsSide uhi
  pub least_v : IsSide vlo
  pub greatest_v : IsSide vhi
