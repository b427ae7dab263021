use Rattle.tilted_rect.proofs.SpanLemmas.{sinks_of_u_show, sinks_of_v_show, span_is_symmetric}
use Rattle.tilted_rect.proofs.laws.shows.Goals as goal

pub returns-clause-u : goal.returns-clause-u
returns-clause-u c = sinks_of_u_show

pub returns-clause-v : goal.returns-clause-v
returns-clause-v c = sinks_of_v_show

pub returns-clause-either_way : goal.returns-clause-either_way
returns-clause-either_way c = span_is_symmetric
