-- One lane more has the sums after the gate.
use Rattle.path_delays.proofs.Vocabulary.{arith, rules}
use Rattle.path_delays.proofs.NarrowLemmas.{bounded_kept, lane_widened, narrow_passed, passable}
use Rattle.path_delays.proofs.narrow_lanes.NarrowLanesRow.pass.Goals as goal

pub after-requires-clause-sum : goal.after-requires-clause-sum
after-requires-clause-sum c = rw (c.loop-lane.invariant.later c.loop-lane.lane (omega arith))
    (passable c.args.self.now c.loop-lane.lane
    (bounded_kept c.args.self.now c.loop-lane.lane c.requires.sums c.loop-lane-test.true)).least

pub after-requires-in-loop-lane-clause-sum : goal.after-requires-in-loop-lane-clause-sum
after-requires-in-loop-lane-clause-sum c =
    rw (c.loop-lane.invariant.later_greatest c.loop-lane.lane (omega arith))
    (passable c.args.self.now c.loop-lane.lane
    (bounded_kept c.args.self.now c.loop-lane.lane c.requires.sums c.loop-lane-test.true)).greatest

pub loop-lane-preserved : goal.loop-lane-preserved
loop-lane-preserved c = record {
  least = search rules;
  greatest = search rules;
  later = search rules;
  later_greatest = search rules;
}

pub returns : goal.returns
returns c lane low =
    rw (lane_widened c.args.self.now lane low, lane_widened c.loop-lane.self lane low)
    (narrow_passed c.args.self.now c.loop-lane.self lane c.args.delay
    (bounded_kept c.args.self.now lane c.requires.sums low) c.requires.delay
    (search rules) (search rules))
