use Rattle.place_down.proofs.Vocabulary.{take, IsTop}
use Rattle.place_down.proofs.source.top_of.Given as goal

abbrev pub invariant-loop-register : goal.invariant-loop-register
invariant-loop-register l = IsTop l.sinks (take l.register l.sinks) l.fn.source l.root l.top
