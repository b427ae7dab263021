-- One line more that isn't faulty each turn.
use Rattle.std.proofs.Common.{◌∙◌, ◌+◌, ◌++◌, ◌∷◌, [], length, inl, inr, subst, ap}
use Rattle.std.proofs.lemmas.Result.{err_from_is_err_and}
use Rattle.cts_base.proofs.LineFaults.{first_found, flawless_last, number_passed, number_small, passed_last, passed_next}
use Rattle.cts_base.proofs.line_format.read_lines.Goals as goal

pub returns-in_err-read_line-clause-flawed : goal.returns-in_err-read_line-clause-flawed
returns-in_err-read_line-clause-flawed g c =
    let (passed, has, walk) = c.loop-line.invariant.2 in
    let number = number_passed walk c.in-Some.ensures.steps in
    let p = err_from_is_err_and c.from_residual.result c.from_residual.ensures.1 in
    rw (p.1, p.2)
    (elim (c.in_err-read_line.ensures.flawed c.args.format.now passed has number) [
      | inl found ↦ inl (first_found walk c.in-Some.ensures.steps c.in_err-read_line.field-0.0
          found)
      | inr memory ↦ inr memory
    ])

pub overflow_add-next : goal.overflow_add-next
overflow_add-next g c = record {
  fits = number_small c.loop-line.invariant.2.2 c.in-Some.ensures.steps c.requires.short;
}

pub loop-line-preserved : goal.loop-line-preserved
loop-line-preserved g c =
    let (passed, has, walk) = c.loop-line.invariant.2 in
    let number = number_passed walk c.in-Some.ensures.steps in
    let step = c.in_ok-read_line.ensures.flawless c.args.format.now passed has number in (
      tt,
      tt,
      (
        passed ++ c.in-Some.line.text.now ∷ [],
        step.1,
        passed_next walk c.in-Some.ensures.steps step.0,
      ),
    )

pub returns-clause-flawless : goal.returns-clause-flawless
returns-clause-flawless g c = flawless_last c.loop-line.invariant.2.2 c.in-None.ensures.steps.0

pub returns-clause-read : goal.returns-clause-read
returns-clause-read g c =
    subst (g.F.LineFormat.has_read c.args.format.now c.loop-line.format)
    (passed_last c.loop-line.invariant.2.2 c.in-None.ensures.steps.0) c.loop-line.invariant.2.1

pub returns-clause-next : goal.returns-clause-next
returns-clause-next g c =
    let walk = c.loop-line.invariant.2.2 in
    walk.next_is ∙ ap (λ lines. length lines + 1) (passed_last walk c.in-None.ensures.steps.0)
