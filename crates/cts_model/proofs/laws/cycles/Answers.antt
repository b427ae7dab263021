use Rattle.cts_model.proofs.CycleLemmas.{cycle_bounds_period, shown_period_is_least, forbidden_at_all}
use Rattle.cts_model.proofs.laws.cycles.Goals as goal

pub returns-clause-sum : goal.returns-clause-sum
returns-clause-sum c = cycle_bounds_period

pub returns-clause-shown : goal.returns-clause-shown
returns-clause-shown c = shown_period_is_least

pub returns-clause-forbidden : goal.returns-clause-forbidden
returns-clause-forbidden c = forbidden_at_all
