use Rattle.report_text.proofs.Vocabulary.{◌≡◌, nat_abs, w128, to_z-of_z, IfOk-weaker, quotient_text, IsBelow, AreSteps, WordHasFlaw, Steps}
use Rattle.report_text.proofs.FractionFlaws.{passed_flaw, steps_denoted, steps_refused}
use Rattle.report_text.proofs.NumberWords.{steps_word}
use Rattle.report_text.proofs.judging.fraction.read_steps.Goals as goal

pub returns-in_err-fraction-clause-flaw : goal.returns-in_err-fraction-clause-flaw
returns-in_err-fraction-clause-flaw c circuit =
    let word = c.args.word.now in
    passed_flaw _ _
    (WordHasFlaw circuit (Steps c.args.over c.args.bound) word) c.from_residual.ensures.1
    (steps_refused c.args.over c.args.bound _ _ c.in_err-fraction.ensures.refused circuit)

pub returns-clause-flaw : goal.returns-clause-flaw
returns-clause-flaw c circuit =
    let fraction = c.in_ok-fraction.fraction in
    let (spells, small, same) = c.in_ok-fraction.ensures.spelled in
    let over = to_z-of_z w128 c.args.over c.ranges.over in
    let bound = to_z-of_z w128 c.args.bound c.ranges.bound in
    let has = rw (over, bound) at c.steps_of.ensures.flaw in
    steps_denoted _ _ _ spells _ _ small fraction.lowest _ has circuit

pub returns-clause-value : goal.returns-clause-value
returns-clause-value c some =
    let word = c.args.word.now in
    let over = c.args.over in
    let fraction = c.in_ok-fraction.fraction in
    let (spells, small, same) = c.in_ok-fraction.ensures.spelled in
    let bound = to_z-of_z w128 c.args.bound c.ranges.bound in
    let value = rw (to_z-of_z w128 over c.ranges.over, bound) at c.steps_of.ensures.value in
    IfOk-weaker c.steps_of.result
    (λ steps. AreSteps over fraction.num fraction.den steps × IsBelow (nat_abs c.args.bound) steps)
    (λ steps. word ≡ quotient_text steps over × IsBelow (nat_abs c.args.bound) steps)
    (λ steps has. (
      steps_word word over _ _ _ some (spells, λ _. fraction.lowest) small has.0,
      has.1,
    )) value
