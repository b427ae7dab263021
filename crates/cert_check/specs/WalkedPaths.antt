-- What is left of a path from a signal on, and its delay.
use Rattle.std.specs.Prelude.{ℕ, ℤ, Bool, true, false, List, Option}
use Rattle.cts_model.specs.declared.circuit.Circuit.{Circuit}
use Rattle.cts_model.specs.declared.signal.Signal.{Signal}
use Rattle.cts_model.specs.declared.tech.Tech.{Tech}
use Rattle.cts_model.specs.Vocabulary.{greatest_delay, greatest_gate_delay, greatest_through, least_delay, least_gate_delay, least_through, Captures, Follows}

-- the gates lead from the signal to one that the register captures
abbrev pub LeadsTo : Circuit → (first : ℕ) → (gates : List ℕ) → (to : ℕ) → Type 0
LeadsTo circuit first gates to =
    (last : ℕ) × Follows circuit.signals first gates last × Captures circuit to last

-- the greatest or the least delay of a gate
abbrev pub gate_delay_by : (greatest : Bool) → Tech → Option Signal → ℤ
gate_delay_by true tech gate = greatest_gate_delay tech gate
gate_delay_by false tech gate = least_gate_delay tech gate

-- of gates, added up
abbrev pub through_by : (greatest : Bool) → Circuit → Tech → List ℕ → ℤ
through_by true circuit tech gates = greatest_through circuit tech gates
through_by false circuit tech gates = least_through circuit tech gates

-- of a path
abbrev pub delay_by : (greatest : Bool) → Circuit → Tech → List ℕ → ℤ
delay_by true circuit tech path = greatest_delay circuit tech path
delay_by false circuit tech path = least_delay circuit tech path
