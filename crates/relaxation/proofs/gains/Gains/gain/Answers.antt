-- Products are small, so the code's numbers are the same.
use Rattle.relaxation.proofs.Vocabulary.{subst, sym, ◌^◌, IsBelow}
use Rattle.relaxation.proofs.GainLemmas.{asked_fits, less_fits, setup_gain, hold_gain, gain_small}
use Rattle.relaxation.proofs.gains.Gains.gain.Goals as goal

pub overflow_mul-asked : goal.overflow_mul-asked
overflow_mul-asked c = asked_fits c.args.self c.args.constraint.now.weight c.requires

pub overflow_sub-result : goal.overflow_sub-result
overflow_sub-result c = less_fits
    c.args.self c.args.constraint.now.weight c.requires c.args.self.setup c.args.self.valid.setup

pub overflow_sub-result-else-constraint : goal.overflow_sub-result-else-constraint
overflow_sub-result-else-constraint c = less_fits
    c.args.self c.args.constraint.now.weight c.requires c.args.self.hold c.args.self.valid.hold

pub returns-then-constraint-clause-gain : goal.returns-then-constraint-clause-gain
returns-then-constraint-clause-gain c =
    setup_gain c.args.self c.args.constraint.now c.if-constraint.true c.requires

pub returns-then-constraint-clause-small : goal.returns-then-constraint-clause-small
returns-then-constraint-clause-small c = subst (IsBelow (2 ^ 80))
    (sym (setup_gain c.args.self c.args.constraint.now c.if-constraint.true c.requires))
    (gain_small c.args.self c.args.constraint.now c.requires)

pub returns-else-constraint-clause-gain : goal.returns-else-constraint-clause-gain
returns-else-constraint-clause-gain c =
    hold_gain c.args.self c.args.constraint.now c.if-constraint.false c.requires

pub returns-else-constraint-clause-small : goal.returns-else-constraint-clause-small
returns-else-constraint-clause-small c = subst (IsBelow (2 ^ 80))
    (sym (hold_gain c.args.self c.args.constraint.now c.if-constraint.false c.requires))
    (gain_small c.args.self c.args.constraint.now c.requires)
