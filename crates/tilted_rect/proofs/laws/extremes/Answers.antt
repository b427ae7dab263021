use Rattle.tilted_rect.proofs.ExtremeLemmas.{has_extremes}
use Rattle.tilted_rect.proofs.SpanLemmas.{reach_is_spread}
use Rattle.tilted_rect.proofs.laws.extremes.Goals as goal

pub returns-clause-exist : goal.returns-clause-exist
returns-clause-exist c = has_extremes

pub returns-clause-reach : goal.returns-clause-reach
returns-clause-reach c = reach_is_spread
