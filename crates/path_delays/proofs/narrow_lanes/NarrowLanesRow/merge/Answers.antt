-- All lanes hold the least and the greatest of both.
use Rattle.path_delays.proofs.Vocabulary.{rules}
use Rattle.path_delays.proofs.NarrowLemmas.{lane_widened, narrow_merged}
use Rattle.path_delays.proofs.narrow_lanes.NarrowLanesRow.merge.Goals as goal

pub returns : goal.returns
returns c lane low = rw (
  lane_widened c.args.self.now lane low,
  lane_widened c.args.other.now lane low,
  lane_widened c.loop-lane.self lane low,
)
    (narrow_merged c.args.self.now c.args.other.now c.loop-lane.self lane
    (search rules) (search rules))
