use Rattle.std.proofs.lemmas.Result.{IfErr-weaker, IfOk-weaker}
use Rattle.cts_program.proofs.StepLemmas.{memory_fails}
use Rattle.cts_program.proofs.demo.problem_answer.Goals as goal

pub returns-clause-few : goal.returns-clause-few
returns-clause-few c = IfOk-weaker c.summed_up.result _ _
    (λ answer is. c.in_ok-outcome.ensures.few) c.summed_up.ensures.text

pub returns-clause-cause : goal.returns-clause-cause
returns-clause-cause c =
    IfErr-weaker c.summed_up.result _ _ (memory_fails c.args.problem.now.circuit)
    c.summed_up.ensures.memory
