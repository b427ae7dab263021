use Rattle.report_text.proofs.Vocabulary.{◌<◌, length, arith, rules, signal_name}
use Rattle.name_set.proofs.NameNumbers.{with_name-next}
use Rattle.report_text.proofs.NameNumbers.{signal_new, signals_few}
use Rattle.report_text.proofs.rules.signal_names.Goals as goal

pub insert-requires : goal.insert-requires
insert-requires c = search (arith, signals_few, c.loop-signal.invariant)

pub loop-signal-preserved : goal.loop-signal-preserved
loop-signal-preserved c =
    let within : c.loop-signal.signal < length c.args.circuit.now.signals = search rules in
    with_name-next (signal_name c.args.circuit.now) c.loop-signal.signal c.loop-signal.invariant
    c.signal_name.ensures (signal_new c.args.circuit.now c.loop-signal.signal within)
    c.in_ok-insert.ensures.names
