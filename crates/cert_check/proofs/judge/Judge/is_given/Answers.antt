-- What joins the pair at the place is that of the constraint there, if there is one.
use Rattle.cert_check.proofs.Vocabulary.{false, pos, rules, arith, slice_get_past}
use Rattle.cert_check.proofs.ConstraintTests.{given_at, small_at}
use Rattle.cert_check.proofs.judge.Judge.is_given.Goals as goal

pub gives_weight-requires : goal.gives_weight-requires
gives_weight-requires c =
    let problem = c.args.self.now.problem.now in
    small_at problem.circuit problem.tech c.args.constraints.now c.args.delays.now c.requires
    c.args.place (record { setup = false; tail = 0; head = 0; weight = pos 0 }) _
    (omega (arith, c.if-place-constraints.false))

pub returns-then-place-constraints : goal.returns-then-place-constraints
returns-then-place-constraints c = search (arith, slice_get_past, rules)

pub returns-else-place-constraints : goal.returns-else-place-constraints
returns-else-place-constraints c =
    let problem = c.args.self.now.problem.now in
    let law = given_at problem.circuit problem.tech c.args.constraints.now c.args.delays.now
    c.requires c.args.place _ _ (omega (arith, c.if-place-constraints.false)) in (
      λ test. law.0 (c.gives_weight.ensures.0 test),
      λ given. c.gives_weight.ensures.1 (law.1 given),
    )
