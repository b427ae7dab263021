use Rattle.timing_tests.proofs.Vocabulary.{All, subst, ◌∙◌, nat_abs, take_all, All-more, IsSatisfied, arrival_of}
use Rattle.cts_model.specs.declared.constraint.Constraint.{Constraint}
use Rattle.timing_tests.proofs.constraint_lists.expect_admitted.Goals as goal

pub loop-constraint-preserved : goal.loop-constraint-preserved
loop-constraint-preserved g c =
    let IsMet : Constraint → Type 0 = IsSatisfied (nat_abs c.args.period.den) c.args.period.num
    (arrival_of c.args.arrivals.now) in
    All-more IsMet c.as_slice-constraint-items.result.now c.loop-constraint.constraint-index _
    c.loop-constraint-test.true c.loop-constraint.invariant c.expect_satisfied.ensures

pub returns : goal.returns
returns g c =
    let IsMet : Constraint → Type 0 = IsSatisfied (nat_abs c.args.period.den) c.args.period.num
    (arrival_of c.args.arrivals.now) in
    let all = take_all c.loop-constraint.constraint-index c.as_slice-constraint-items.result.now
    c.loop-constraint-test.false in (
      arrival_of c.args.arrivals.now,
      subst (All IsMet) (all ∙ c.as_slice-constraint-items.ensures)
          c.loop-constraint.invariant,
    )
