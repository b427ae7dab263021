use Rattle.cts_engine.proofs.Vocabulary.{◌^◌, sym, subst, arith, All, IsBelow, length-sinks_of}
use Rattle.cts_engine.proofs.CycleLengths.{few_registers}
use Rattle.cts_engine.proofs.SinkLemmas.{tree_sinks}
use Rattle.cts_engine.proofs.TimingBounds.{arrivals_small}
use Rattle.cts_engine.proofs.sink_times.sinks_at.Goals as goal

pub sinks-requires-clause-small : goal.sinks-requires-clause-small
sinks-requires-clause-small c = subst (All (IsBelow (10 ^ 19))) (sym c.as_slice.ensures)
    (arrivals_small c.in_ok-times.times.schedule.at c.in_ok-times.ensures.arrivals)

pub returns-clause-ok : goal.returns-clause-ok
returns-clause-ok c = search (arith, length-sinks_of, tree_sinks, few_registers)
