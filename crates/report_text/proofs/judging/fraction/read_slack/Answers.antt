use Rattle.report_text.proofs.Vocabulary.{pos, ◌^◌, Some, None, subst, arith, w128, to_z-of_z, WordHasFlaw, HasStepsFlaw}
use Rattle.report_text.specs.LineFields.{Slack}
use Rattle.report_text.proofs.FractionFlaws.{dash_plain, passed_flaw, slack_denoted, steps_denoted, steps_refused}
use Rattle.report_text.proofs.judging.fraction.read_slack.Goals as goal

pub returns-then-is_dash-clause-flaw : goal.returns-then-is_dash-clause-flaw
returns-then-is_dash-clause-flaw c = search (arith, dash_plain, c.if-is_dash.ensures.0)

pub returns-in_err-fraction-clause-flaw : goal.returns-in_err-fraction-clause-flaw
returns-in_err-fraction-clause-flaw c circuit =
    let over = c.args.over in
    let bound = pos (10 ^ 20) in
    let word = c.args.word.now in
    let flaw = c.in_err-fraction.field-0.0 in
    passed_flaw _ _ (WordHasFlaw circuit (Slack over bound) word) c.from_residual.ensures.1
    (slack_denoted over bound _ (λ dash. let bad = c.if-is_dash.ensures.1 dash in cc) (Some flaw)
    circuit (steps_refused over bound _ _ c.in_err-fraction.ensures.refused circuit))

pub returns-in_err-steps_of-clause-flaw : goal.returns-in_err-steps_of-clause-flaw
returns-in_err-steps_of-clause-flaw c circuit =
    let over = c.args.over in
    let bound = pos (10 ^ 20) in
    let word = c.args.word.now in
    let flaw = c.in_err-steps_of.field-0.0 in
    let fraction = c.in_ok-fraction.fraction in
    let (spells, small, same) = c.in_ok-fraction.ensures.spelled in
    let has = subst (λ o. HasStepsFlaw o bound fraction.num fraction.den (Some flaw))
    (to_z-of_z w128 over c.ranges.over) c.in_err-steps_of.ensures.flaw in
    passed_flaw _ _ (WordHasFlaw circuit (Slack over bound) word)
    c.from_residual-in_err-steps_of.ensures.1 (slack_denoted over bound _
    (λ dash. let bad = c.if-is_dash.ensures.1 dash in cc) (Some flaw) circuit (steps_denoted _ _
    _ spells over bound small fraction.lowest (Some flaw) has circuit))

pub returns-clause-flaw : goal.returns-clause-flaw
returns-clause-flaw c circuit =
    let over = c.args.over in
    let fraction = c.in_ok-fraction.fraction in
    let (spells, small, same) = c.in_ok-fraction.ensures.spelled in
    let has = rw (to_z-of_z w128 over c.ranges.over) at c.in_ok-steps_of.ensures.flaw in
    slack_denoted over _ _ (λ dash. let bad = c.if-is_dash.ensures.1 dash in cc) None circuit
    (steps_denoted _ _ _ spells over _ small fraction.lowest None has circuit)
