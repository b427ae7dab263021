-- What a delay table keeps: the ranges of its numbers, in ticks, and no least delay above its
-- greatest.
use Rattle.std.specs.Prelude.{◌≡◌, ℕ, ℤ, pos, ◌≤ℤ◌, false, List, All, nat_abs}
use Rattle.std.specs.Int.{IsGcd}
use Rattle.cts_model.specs.declared.tech.GateDelay.{GateDelay}

-- from low to high
pub record IsWithin (low high : ℕ) (number : ℤ) : Type 0 where
  pub above : pos low ≤ℤ number
  pub below : number ≤ℤ pos high

pub record IsGateDelay (delay : GateDelay) : Type 0 where
  pub least : IsWithin 0 1000000 delay.least
  pub greatest : IsWithin 0 1000000 delay.greatest
  pub least_per_input : IsWithin 0 1000 delay.least_per_input
  pub greatest_per_input : IsWithin 0 1000 delay.greatest_per_input
  pub ordered : delay.least ≤ℤ delay.greatest
  pub ordered_per_input : delay.least_per_input ≤ℤ delay.greatest_per_input
  -- a kind that isn't given has no delay
  pub zero_least : delay.given ≡ false → delay.least ≡ pos 0
  pub zero_greatest : delay.given ≡ false → delay.greatest ≡ pos 0
  pub zero_least_per_input : delay.given ≡ false → delay.least_per_input ≡ pos 0
  pub zero_greatest_per_input : delay.given ≡ false → delay.greatest_per_input ≡ pos 0

pub record IsTable (wire_num wire_den setup hold least greatest floor : ℤ)
    (gates : List GateDelay) : Type 0 where
  pub wire_num_within : IsWithin 1 1000000 wire_num
  pub wire_den_within : IsWithin 1 1000000 wire_den
  pub lowest_terms : IsGcd (nat_abs wire_num) (nat_abs wire_den) 1
  pub setup_within : IsWithin 0 1000000 setup
  pub hold_within : IsWithin 0 1000000 hold
  pub least_within : IsWithin 0 1000000 least
  pub greatest_within : IsWithin 0 1000000 greatest
  pub ordered : least ≤ℤ greatest
  pub floor_within : IsWithin 0 1000000000 floor
  pub gates_within : All IsGateDelay gates
