use Rattle.report_text.proofs.Vocabulary.{sym, ◌∙◌, rules, FitsSigned, arith, w128, to_z-of_z}
use Rattle.report_text.proofs.FractionFlaws.{steps_past, steps_taken, steps_unfit, steps_within}
use Rattle.report_text.proofs.judging.fraction.steps_of.Goals as goal

pub returns-then-not-divides-clause-flaw : goal.returns-then-not-divides-clause-flaw
returns-then-not-divides-clause-flaw c =
    let fraction = c.args.fraction in
    let divides = rw (to_z-of_z w128 c.args.over c.ranges.over) at c.divides.ensures in
    steps_unfit c.args.over c.args.bound fraction.num fraction.den fraction.lowest
    (λ none. let bad = sym c.if-not-divides.true ∙ divides.1 none in cc)

pub returns-in-Some-clause-flaw : goal.returns-in-Some-clause-flaw
returns-in-Some-clause-flaw c = search (arith, to_z-of_z, steps_within)

pub returns-in-Some-clause-value : goal.returns-in-Some-clause-value
returns-in-Some-clause-value c =
    let fraction = c.args.fraction in
    let over = to_z-of_z w128 c.args.over c.ranges.over in
    let divides = rw over at c.divides.ensures in
    let below = rw (over, to_z-of_z w128 c.args.bound c.ranges.bound) at c.in-Some.ensures in
    let fits : FitsSigned w128 c.in-Some.steps = search rules in
    steps_taken c.args.over c.args.bound fraction.num fraction.den fraction.lowest
    (divides.0 c.if-not-divides.false) below.1 _ (to_z-of_z w128 c.in-Some.steps fits ∙ below.0)

pub returns-in-None-clause-flaw : goal.returns-in-None-clause-flaw
returns-in-None-clause-flaw c =
    let over = to_z-of_z w128 c.args.over c.ranges.over in
    let divides = rw over at c.divides.ensures in
    let past = rw (over, to_z-of_z w128 c.args.bound c.ranges.bound) at c.in-None.ensures in
    steps_past _ _ _ _ c.args.fraction.lowest (divides.0 c.if-not-divides.false) past
