use Rattle.bench_reader.proofs.FanIns.{NumbersPassed}
use Rattle.bench_reader.proofs.circuit_parts.fan_in.Given as goal

abbrev pub invariant-loop-name : goal.invariant-loop-name
invariant-loop-name l =
    (goal.iterator-loop-name).can_next l.name-iterator ×
    (goal.iterator-loop-name).is_finite l.name-iterator ×
    NumbersPassed l.names l.inputs l.name-iterator l.fan_in
