use Rattle.tilted_rect.proofs.MergeLemmas.{sink_reach, sink_region}
use Rattle.tilted_rect.proofs.laws.single.Goals as goal

pub returns-clause-reach : goal.returns-clause-reach
returns-clause-reach c = sink_reach

pub returns-clause-region : goal.returns-clause-region
returns-clause-region c = sink_region
