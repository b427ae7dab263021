use Rattle.cts_model.proofs.SaidLemmas.{shown_is_what_it_says}
use Rattle.cts_model.proofs.ShownLemmas.{shown_is_least}
use Rattle.cts_model.proofs.laws.reports.Goals as goal

pub returns-clause-least : goal.returns-clause-least
returns-clause-least c = shown_is_least

pub returns-clause-said : goal.returns-clause-said
returns-clause-said c = shown_is_what_it_says
