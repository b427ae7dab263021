use Rattle.cts_engine.proofs.OneProblem.{denoted_alone}
use Rattle.cts_engine.proofs.acceptance.accept.Goals as goal

pub returns-clause-accepted : goal.returns-clause-accepted
returns-clause-accepted c problem denotes =
    denoted_alone c.args.bench.now c.args.tech.now c.args.places.now c.problem_denoted.result
    c.problem_denoted.ensures.ok c.problem_denoted.ensures.cause problem denotes
