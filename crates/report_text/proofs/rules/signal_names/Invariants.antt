use Rattle.report_text.proofs.Vocabulary.{◌≡◌, map, range_with_len, signal_name}
use Rattle.report_text.proofs.rules.signal_names.Given as goal

abbrev pub invariant-loop-signal : goal.invariant-loop-signal
invariant-loop-signal l = l.names ≡ map (signal_name l.circuit) (range_with_len 0 l.signal)
