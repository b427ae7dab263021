use Rattle.std.proofs.Common.{arith}
use Rattle.std.proofs.lemmas.Grind.{common_steps}
use Rattle.constraints.proofs.BothOfPairs.{pushed_next}
use Rattle.constraints.proofs.ListedConstraints.{each_of_circuit, met_where_satisfied, satisfied_where_met, few_of_listed, small_of_few}
use Rattle.constraints.proofs.of_pairs.constraints_of.Goals as goal

pub loop-pair-preserved : goal.loop-pair-preserved
loop-pair-preserved c =
    pushed_next c.args.tech.now _ _ _ _ _ _ _ _ c.loop-pair-test.true c.loop-pair.invariant
    c.setup_constraint-setup.ensures c.hold_constraint-hold.ensures
    c.in_ok-push.ensures.items c.in_ok-push-2.ensures.items

pub returns-clause-value : goal.returns-clause-value
returns-clause-value c = grind (arith, common_steps)

pub returns-clause-each : goal.returns-clause-each
returns-clause-each c = λ circuit lists. rw (returns-clause-value c) (each_of_circuit lists)

pub returns-clause-meets : goal.returns-clause-meets
returns-clause-meets c = λ circuit lists scale period arrival.
    rw (returns-clause-value c)
    (met_where_satisfied lists scale period arrival, satisfied_where_met lists scale period arrival)

pub returns-clause-small : goal.returns-clause-small
returns-clause-small c = λ registers few.
    rw (returns-clause-value c) (small_of_few c.args.tech.now c.requires few)

pub returns-clause-registers : goal.returns-clause-registers
returns-clause-registers c = λ circuit lists few.
    returns-clause-small c _ (few_of_listed lists few)
