-- How large the numbers of gains are.
use Rattle.std.specs.Prelude.{◌*◌, ◌^◌, ℤ, pos, ◌≤ℤ◌}
use Rattle.cts_model.specs.Vocabulary.{IsBelow}

-- weights are taken at most 409,700,000,000 times, and what is taken away is below 2^79 in size
pub record AreSmallGains (times from_setup from_hold : ℤ) : Type 0 where
  pub some : pos 1 ≤ℤ times
  pub fine : times ≤ℤ pos (4097 * 10 ^ 8)
  pub setup : IsBelow (2 ^ 79) from_setup
  pub hold : IsBelow (2 ^ 79) from_hold
