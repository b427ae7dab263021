use Rattle.merge_up.proofs.WorkLemmas.{IsBegun}
use Rattle.merge_up.proofs.bottom_up.set_sinks.Given as goal

-- the sinks so far are set
abbrev pub invariant-loop-register : goal.invariant-loop-register
invariant-loop-register l = IsBegun l.sinks l.register l.fn.work l.work
