-- How far a sink can be to a side, with its offset.
use Rattle.std.specs.Prelude.{◌*◌, ◌^◌, ℤ}
use Rattle.cts_model.specs.Vocabulary.{IsBelow, IsMultipleOf}

-- place and offset are whole numbers of 8 grid steps, each below 10^31 in size
pub record IsFar (far : ℤ) : Type 0 where
  pub below : IsBelow (2 * 10 ^ 31) far
  pub multiple : IsMultipleOf 8 far
