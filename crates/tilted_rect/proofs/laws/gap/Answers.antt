use Rattle.tilted_rect.proofs.MergeLemmas.{gap_is_greatest_span, no_gap_no_greater_span, union_reach}
use Rattle.tilted_rect.proofs.laws.gap.Goals as goal

pub returns-clause-above : goal.returns-clause-above
returns-clause-above c = gap_is_greatest_span

pub returns-clause-none : goal.returns-clause-none
returns-clause-none c = no_gap_no_greater_span

pub returns-clause-reach : goal.returns-clause-reach
returns-clause-reach c = union_reach
