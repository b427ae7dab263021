use Rattle.cts_model.proofs.Vocabulary.{FitsSigned, ◌∙◌, arith, rules, ints, to_z-of_z}
use Rattle.std.specs.Int.{w128}
use Rattle.cts_model.proofs.PointLemmas.{apart-rotated, sum_of_values}
use Rattle.cts_model.proofs.place.manhattan.Goals as goal

pub overflow_add-result : goal.overflow_add-result
overflow_add-result c = omega (arith, ints)

pub returns-clause-value : goal.returns-clause-value
returns-clause-value c =
    let from_x : FitsSigned w128 c.args.a.x = search rules in
    let from_y : FitsSigned w128 c.args.a.y = search rules in
    let to_x : FitsSigned w128 c.args.b.x = search rules in
    let to_y : FitsSigned w128 c.args.b.y = search rules in
    let x = simp to_z-of_z at c.apart.ensures.value in
    let y = simp to_z-of_z at c.apart-2.ensures.value in
    sum_of_values x y (omega (arith, ints))

pub returns-clause-rotated : goal.returns-clause-rotated
returns-clause-rotated c =
    returns-clause-value c ∙ apart-rotated c.args.a.x c.args.a.y c.args.b.x c.args.b.y
