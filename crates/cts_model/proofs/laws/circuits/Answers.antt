use Rattle.cts_model.proofs.CircuitConstraints.{met_constraint, critical_is_least, forbidding_at_all}
use Rattle.cts_model.proofs.laws.circuits.Goals as goal

pub returns-clause-met : goal.returns-clause-met
returns-clause-met c = met_constraint

pub returns-clause-critical : goal.returns-clause-critical
returns-clause-critical c = critical_is_least

pub returns-clause-forbidding : goal.returns-clause-forbidding
returns-clause-forbidding c = forbidding_at_all
