-- What the delays of a pair say of a constraint.
use Rattle.std.specs.Prelude.{ℕ, ℤ, ◌+ℤ◌, ◌-ℤ◌, Bool, true, false, List, if◌then◌else◌}
use Rattle.cts_model.specs.declared.circuit.Circuit.{Circuit}
use Rattle.cts_model.specs.declared.constraint.Constraint.{Constraint}
use Rattle.cts_model.specs.declared.tech.Tech.{Tech}
use Rattle.cts_model.specs.declared.timing.PairDelay.{PairDelay}
use Rattle.cts_model.specs.Vocabulary.{greatest_delay, least_delay}

-- the register that launches along a constraint's paths, and the one that captures
abbrev pub pair_of : Constraint → ℕ × ℕ
pair_of constraint = if constraint.setup then (constraint.tail, constraint.head)
    else (constraint.head, constraint.tail)

-- the weight that the delays of a pair give a setup or a hold constraint
abbrev pub weight_by : Tech → (setup : Bool) → PairDelay → ℤ
weight_by tech true delays = delays.greatest +ℤ tech.setup
weight_by tech false delays = tech.hold -ℤ delays.least

-- and the weight that the delay of a path gives it
abbrev pub path_weight : Circuit → Tech → (setup : Bool) → List ℕ → ℤ
path_weight circuit tech true path = greatest_delay circuit tech path +ℤ tech.setup
path_weight circuit tech false path = tech.hold -ℤ least_delay circuit tech path
