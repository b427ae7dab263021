-- The slacks of the registers passed so far.
use Rattle.timing_report.specs.SpareTicks.{AreSlacksBefore}
use Rattle.timing_report.proofs.slack.slacks.Given as goal

abbrev pub invariant-loop-register : goal.invariant-loop-register
invariant-loop-register l =
    AreSlacksBefore l.tech l.period l.schedule.at l.window-items l.register l.slacks.items
