use Rattle.cts_model.proofs.ReachLemmas.{realised_have_reaches, reaches_are_no_less, wire_is_of_reaches}
use Rattle.cts_model.proofs.TreeLemmas.{reaches_realise, shown_reaches_are_least}
use Rattle.cts_model.proofs.laws.trees.Goals as goal

pub returns-clause-realised : goal.returns-clause-realised
returns-clause-realised c = reaches_realise

pub returns-clause-least : goal.returns-clause-least
returns-clause-least c = shown_reaches_are_least

pub returns-clause-reaches : goal.returns-clause-reaches
returns-clause-reaches c = realised_have_reaches

pub returns-clause-no_less : goal.returns-clause-no_less
returns-clause-no_less c = reaches_are_no_less

pub returns-clause-wire : goal.returns-clause-wire
returns-clause-wire c = wire_is_of_reaches
