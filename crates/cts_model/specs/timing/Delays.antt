-- The least and the greatest delay of a path, in ticks: two sums, each over its own numbers.
use Rattle.std.specs.Prelude.{ℕ, ◌-◌, ℤ, pos, ◌+ℤ◌, ◌*ℤ◌, false, List, [], ◌∷◌, length, slice_get, slice_index_or, Option, Some, None}
use Rattle.cts_model.specs.Types.{Kind, Signal, Circuit, GateDelay, Tech}
use Rattle.cts_model.specs.netlist.Kinds.{place_of}

-- what a table says of a kind that it doesn't give; no gate of a problem has such a kind
abbrev pub no_delay : GateDelay
no_delay = record {
  given = false;
  least = pos 0;
  greatest = pos 0;
  least_per_input = pos 0;
  greatest_per_input = pos 0;
}

-- what the table says of a kind
abbrev pub delay_of : Tech → Kind → GateDelay
delay_of tech kind = slice_index_or tech.gates (place_of kind) no_delay

-- the inputs of a signal after its first
abbrev pub further_inputs : Signal → ℤ
further_inputs signal = pos (length signal.fan_in - 1)

abbrev pub least_gate_delay : Tech → Option Signal → ℤ
least_gate_delay tech None = pos 0
least_gate_delay tech (Some gate) =
    (delay_of tech gate.kind).least
    +ℤ ((delay_of tech gate.kind).least_per_input *ℤ further_inputs gate)

abbrev pub greatest_gate_delay : Tech → Option Signal → ℤ
greatest_gate_delay tech None = pos 0
greatest_gate_delay tech (Some gate) =
    (delay_of tech gate.kind).greatest
    +ℤ ((delay_of tech gate.kind).greatest_per_input *ℤ further_inputs gate)

-- the gates' least delays, added up
abbrev pub least_through : Circuit → Tech → List ℕ → ℤ
least_through circuit tech [] = pos 0
least_through circuit tech (gate ∷ gates) =
    least_gate_delay tech (slice_get circuit.signals gate) +ℤ least_through circuit tech gates

-- the gates' greatest delays, added up
abbrev pub greatest_through : Circuit → Tech → List ℕ → ℤ
greatest_through circuit tech [] = pos 0
greatest_through circuit tech (gate ∷ gates) =
    greatest_gate_delay tech (slice_get circuit.signals gate) +ℤ greatest_through circuit tech gates

-- a path's least delay: that of its register, and those of its gates. The host counts as a
-- register: a path from a primary input has a register's delay too, and a primary output has a
-- register's setup and hold time.
abbrev pub least_delay : Circuit → Tech → List ℕ → ℤ
least_delay circuit tech [] = tech.least
least_delay circuit tech (register ∷ gates) = tech.least +ℤ least_through circuit tech gates

-- a path's greatest delay
abbrev pub greatest_delay : Circuit → Tech → List ℕ → ℤ
greatest_delay circuit tech [] = tech.greatest
greatest_delay circuit tech (register ∷ gates) =
    tech.greatest +ℤ greatest_through circuit tech gates
