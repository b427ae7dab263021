use Rattle.report_text.proofs.Vocabulary.{◌≡◌, ◌++◌, map, take, signal_name, suffix}
use Rattle.report_text.proofs.timing.push_signals.Given as goal

-- the names so far
abbrev pub invariant-loop-number : goal.invariant-loop-number
invariant-loop-number l =
    l.out.items
    ≡ l.fn.out.items ++ suffix (map (signal_name l.circuit) (take l.number-index l.path))
