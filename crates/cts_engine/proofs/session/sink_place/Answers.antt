use Rattle.cts_engine.proofs.Vocabulary.{◌^◌, ◌∙◌, ◌*ℤ◌, ap, sym, subst, arith, ints, IsUvBelow, IsUvMultipleOf, rotated, number_read}
use Rattle.cts_engine.proofs.SessionLemmas.{kept_place}
use Rattle.cts_engine.proofs.SinkLemmas.{rotated_below, rotated_multiple}
use Rattle.cts_engine.proofs.session.sink_place.Goals as goal

pub product-requires-clause-b : goal.product-requires-clause-b
product-requires-clause-b c = search (arith, ints)

pub product-requires-2-clause-a : goal.product-requires-2-clause-a
product-requires-2-clause-a c = search (arith, ints)

pub product-requires-2-clause-b : goal.product-requires-2-clause-b
product-requires-2-clause-b c = search (arith, ints)

pub to_uv-requires : goal.to_uv-requires
to_uv-requires c =
    let kept = kept_place c.steps_in-steps.result c.product.result c.product-2.result c.args.at
    c.steps_in-steps.ensures.small c.requires.near c.product.ensures.value
    c.product-2.ensures.value in
    let x = kept.below.x in
    let y = kept.below.y in
    record {
      x = record { above = omega (arith, ints, x); below = omega (arith, ints, x) };
      y = record { above = omega (arith, ints, y); below = omega (arith, ints, y) };
    }

pub returns-clause-value : goal.returns-clause-value
returns-clause-value c period tech grid =
    let kept = kept_place c.steps_in-steps.result c.product.result c.product-2.result c.args.at
    c.steps_in-steps.ensures.small c.requires.near c.product.ensures.value
    c.product-2.ensures.value in
    let read = number_read c.args.grid (omega (arith, ints, c.requires.grid.within)) in
    let steps = c.steps_in-steps.ensures.value period tech (read ∙ grid) in
    c.to_uv.ensures.value ∙ ap rotated kept.is
    ∙ (λ i. rotated (record { x = steps i *ℤ c.args.at.x; y = steps i *ℤ c.args.at.y }))

pub returns-clause-below : goal.returns-clause-below
returns-clause-below c =
    let kept = kept_place c.steps_in-steps.result c.product.result c.product-2.result c.args.at
    c.steps_in-steps.ensures.small c.requires.near c.product.ensures.value
    c.product-2.ensures.value in
    subst (IsUvBelow (10 ^ 31)) (sym c.to_uv.ensures.value)
    (rotated_below (10 ^ 27) _ (omega arith) kept.below)

pub returns-clause-multiple : goal.returns-clause-multiple
returns-clause-multiple c =
    let grid = c.requires.grid in
    subst (IsUvMultipleOf 8) (sym (returns-clause-value c grid.period grid.tech grid.is))
    (rotated_multiple grid.period grid.tech c.args.at)
