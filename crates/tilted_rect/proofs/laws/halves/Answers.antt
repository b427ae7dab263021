use Rattle.tilted_rect.proofs.MultipleLemmas.{greatest_span_is_multiple, reach_is_multiple, corners_are_multiples}
use Rattle.tilted_rect.proofs.laws.halves.Goals as goal

pub returns-clause-spans : goal.returns-clause-spans
returns-clause-spans c = greatest_span_is_multiple

pub returns-clause-reach : goal.returns-clause-reach
returns-clause-reach c = reach_is_multiple

pub returns-clause-corners : goal.returns-clause-corners
returns-clause-corners c = corners_are_multiples
