-- The lanes stand for what was told.
use Rattle.path_delays.proofs.Vocabulary.{arith}
use Rattle.path_delays.proofs.NarrowLemmas.{lane_widened}
use Rattle.path_delays.proofs.narrow_lanes.NarrowLanesRow.filled.Goals as goal

pub returns : goal.returns
returns c lane low missed = rw (lane_widened c.args.self.now lane low) (search arith)
