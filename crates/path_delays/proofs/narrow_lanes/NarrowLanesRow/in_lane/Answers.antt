-- The lane stands for what is told.
use Rattle.path_delays.proofs.Vocabulary.{rules}
use Rattle.path_delays.proofs.NarrowLemmas.{lane_widened}
use Rattle.path_delays.proofs.narrow_lanes.NarrowLanesRow.in_lane.Goals as goal

pub returns-then-greatest-lt0 : goal.returns-then-greatest-lt0
returns-then-greatest-lt0 c =
    rw (lane_widened c.args.self.now c.args.lane.number c.args.lane.low) (search rules)

pub returns-then-least-from : goal.returns-then-least-from
returns-then-least-from c =
    rw (lane_widened c.args.self.now c.args.lane.number c.args.lane.low) (search rules)

pub returns-else-least-from : goal.returns-else-least-from
returns-else-least-from c =
    rw (lane_widened c.args.self.now c.args.lane.number c.args.lane.low) (search rules)
