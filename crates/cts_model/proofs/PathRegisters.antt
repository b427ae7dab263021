-- The registers that paths join, and that listed pairs and constraints name.
use Rattle.cts_model.proofs.Vocabulary.{◌≡◌, ◌<◌, ℕ, ℤ, Bool, true, false, List, [], ◌∷◌, length, Option, Some, None, refl, MatchBool, All, slice_get, option_and_then, All-weaker, slice_get_within, Signal, Circuit, Constraint, Tech, PairDelay, register_signal, IsPath, IsSetupConstraint, IsHoldConstraint, IsConstraintOf, IsPairDelay, ListsPairs}
use Rattle.std.proofs.Common.{IsSomeAnd}

-- a register that has a signal is one of the circuit's
register_within : (circuit : Circuit) (register : ℕ) (Holds : Signal → Type 0)
    → IsSomeAnd (register_signal circuit register) Holds → register < length circuit.registers
register_within circuit register Holds holds = at (slice_get circuit.registers register) refl holds
  where
    at : (listed : Option ℕ) → slice_get circuit.registers register ≡ listed
        → IsSomeAnd (option_and_then (slice_get circuit.signals) listed) Holds
        → register < length circuit.registers
    at None missing holds = absurd holds
    at (Some number) here holds = slice_get_within circuit.registers register number here

-- a path joins registers of the circuit
pub path_within : (circuit : Circuit) (from to : ℕ) (path : List ℕ) → IsPath circuit from to path
    → (from < length circuit.registers) × (to < length circuit.registers)
path_within circuit from to [] is_path = absurd is_path
path_within circuit from to (first ∷ gates) is_path =
    (register_within circuit from _ is_path.0, register_within circuit to _ is_path.1.2)

-- the register that launches is one of the circuit
pub pair_from : (circuit : Circuit) (tech : Tech) (pair : PairDelay) → IsPairDelay circuit tech pair
    → pair.from < length circuit.registers
pair_from circuit tech pair delays =
    let (path, joins, least_is) = delays.least_shown in
    (path_within circuit pair.from pair.to path joins).0

-- and so is the one that captures
pub pair_to : (circuit : Circuit) (tech : Tech) (pair : PairDelay) → IsPairDelay circuit tech pair
    → pair.to < length circuit.registers
pair_to circuit tech pair delays =
    let (path, joins, least_is) = delays.least_shown in
    (path_within circuit pair.from pair.to path joins).1

module _ {circuit : Circuit} {tech : Tech} {pairs : List PairDelay}
    (lists : ListsPairs circuit tech pairs) where
  -- the registers that listed pairs name are the circuit's
  pub launches_within : All (λ pair. pair.from < length circuit.registers) pairs
  launches_within = All-weaker (IsPairDelay circuit tech) _ (pair_from circuit tech) pairs
      lists.delays

  pub captures_within : All (λ pair. pair.to < length circuit.registers) pairs
  captures_within = All-weaker (IsPairDelay circuit tech) _ (pair_to circuit tech) pairs
      lists.delays

-- a constraint of either kind joins registers of the circuit
joins_registers : (circuit : Circuit) (tech : Tech) (setup : Bool) (tail head : ℕ) (weight : ℤ)
    → MatchBool setup (IsSetupConstraint circuit tech tail head weight)
    (IsHoldConstraint circuit tech head tail weight)
    → (tail < length circuit.registers) × (head < length circuit.registers)
joins_registers circuit tech true tail head weight its =
    path_within circuit tail head its.path its.joins
joins_registers circuit tech false tail head weight its =
    let (from, to) = path_within circuit head tail its.path its.joins in (to, from)

-- a constraint leads from a register of the circuit
pub tail_within : (circuit : Circuit) (tech : Tech) (constraint : Constraint)
    → IsConstraintOf circuit tech constraint → constraint.tail < length circuit.registers
tail_within circuit tech constraint its = (joins_registers circuit tech constraint.setup
    constraint.tail constraint.head constraint.weight its).0

-- and leads to one
pub head_within : (circuit : Circuit) (tech : Tech) (constraint : Constraint)
    → IsConstraintOf circuit tech constraint → constraint.head < length circuit.registers
head_within circuit tech constraint its = (joins_registers circuit tech constraint.setup
    constraint.tail constraint.head constraint.weight its).1

module _ (circuit : Circuit) (tech : Tech) (constraints : List Constraint)
    (of_circuit : All (IsConstraintOf circuit tech) constraints) where
  -- so it is with all constraints of a circuit
  pub tails_within : All (λ constraint. constraint.tail < length circuit.registers) constraints
  tails_within = All-weaker (IsConstraintOf circuit tech) _
      (tail_within circuit tech) constraints of_circuit
