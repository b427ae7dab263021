use Rattle.report_text.proofs.Vocabulary.{◌^◌, ◌∙◌, sym, subst, arith, IsBelow, held_same}
use Rattle.report_text.proofs.SpelledFields.{scale_small}
use Rattle.report_text.proofs.rules.scale_of.Goals as goal

pub returns-clause-value : goal.returns-clause-value
returns-clause-value c =
    let small = scale_small c.args.grid.tech.now c.args.grid.period c.args.grid.small in
    let den = held_same c.den.result
    (subst (IsBelow (10 ^ 37)) (sym c.den.ensures.value) small.small_den)
    ∙ c.den.ensures.value in
    let grid = held_same c.steps_of_unit.result
    (subst (IsBelow (10 ^ 37)) (sym c.steps_of_unit.ensures) small.small_grid)
    ∙ c.steps_of_unit.ensures in
    λ i. record { den = den i; grid = grid i }

pub returns-clause-small : goal.returns-clause-small
returns-clause-small c = search (arith, returns-clause-value, scale_small, c.args.grid.small)
