-- The next lane is as it was.
use Rattle.path_delays.proofs.Vocabulary.{sym, subst, arith, AreBounded, delay_limit}
use Rattle.path_delays.proofs.LaneLemmas.{bounded_read}
use Rattle.path_delays.proofs.lanes.LanesRow.pass.Goals as goal

pub through-requires-clause-sums : goal.through-requires-clause-sums
through-requires-clause-sums c = bounded_read delay_limit c.loop-lane.self.sums c.loop-lane.lane
    (subst (AreBounded delay_limit)
    (sym (c.loop-lane.invariant.later c.loop-lane.lane (omega arith)))
    (c.requires.sums c.loop-lane.lane c.loop-lane-test.true))
