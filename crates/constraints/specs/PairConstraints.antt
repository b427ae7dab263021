-- The constraints of listed pairs of registers, with delays and weights in ticks. Fishburn, "Clock
-- Skew Optimization", 1990.
use Rattle.std.specs.Prelude.{◌<◌, ◌≤◌, ℕ, ℤ, ◌+ℤ◌, ◌-ℤ◌, true, false, List, [], ◌∷◌, length, All}
use Rattle.std.specs.List.{flat_map}
use Rattle.cts_model.specs.declared.tech.Tech.{Tech}
use Rattle.cts_model.specs.declared.timing.PairDelay.{PairDelay}
use Rattle.cts_model.specs.declared.constraint.Constraint.{Constraint}

-- what a pair launches settles, after its greatest delay, the setup time before it is captured
abbrev pub setup_constraint : ℤ → PairDelay → Constraint
setup_constraint setup pair =
    record { setup = true; tail = pair.from; head = pair.to; weight = pair.greatest +ℤ setup }

-- and comes, after its least delay, no earlier than the hold time after the edge before
abbrev pub hold_constraint : ℤ → PairDelay → Constraint
hold_constraint hold pair =
    record { setup = false; tail = pair.to; head = pair.from; weight = hold -ℤ pair.least }

-- both constraints of a pair
abbrev pub constraints_of_pair : (setup hold : ℤ) → PairDelay → List Constraint
constraints_of_pair setup hold pair = setup_constraint setup pair ∷ hold_constraint hold pair ∷ []

-- both constraints of each pair, in the order of the pairs
abbrev pub constraints_of_pairs : Tech → List PairDelay → List Constraint
constraints_of_pairs tech pairs = flat_map (constraints_of_pair tech.setup tech.hold) pairs

-- at most 1,048,576 pairs between 1 to 4,097 registers
pub record AreFewPairs (registers : ℕ) (pairs : List PairDelay) : Type 0 where
  pub some : 1 ≤ registers
  pub not_many : registers ≤ 4097
  pub few : length pairs ≤ 1048576
  pub from : All (λ pair. pair.from < registers) pairs
  pub to : All (λ pair. pair.to < registers) pairs
