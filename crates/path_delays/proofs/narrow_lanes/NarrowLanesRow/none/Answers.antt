-- The lanes stand for no sums.
use Rattle.path_delays.proofs.Vocabulary.{◌∙◌, rules, pos, negsuc, replicate}
use Rattle.path_delays.proofs.NarrowLemmas.{lane_widened}
use Rattle.path_delays.proofs.narrow_lanes.NarrowLanesRow.none.Goals as goal

pub returns : goal.returns
returns c lane low = lane_widened (record {
  least = replicate 16 (record { ticks = pos 1073741824 });
  greatest = replicate 16 (record { ticks = negsuc 1073741823 });
}) lane low ∙ search rules
