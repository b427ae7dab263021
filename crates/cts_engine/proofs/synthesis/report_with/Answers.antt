use Rattle.cts_engine.proofs.Vocabulary.{◌≡◌, ◌≤◌, ◌^◌, ◌∙◌, to_z, of_z, ap, refl, arith, unsigned_abs, w128, ints, grid_size, number_read}
use Rattle.cts_engine.proofs.ReportLemmas.{is_report}
use Rattle.cts_engine.proofs.SinkLemmas.{tree_source}
use Rattle.cts_engine.proofs.synthesis.report_with.Goals as goal

pub tree_with-requires-clause-source : goal.tree_with-requires-clause-source
tree_with-requires-clause-source c =
    let problem = c.args.problem.now in
    rw c.rotated-source.ensures
    (tree_source c.args.timed.period problem.tech c.requires.timed.least.range
    problem.places.source problem.valid.source_near)

pub returns-clause-ok : goal.returns-clause-ok
returns-clause-ok c =
    let problem = c.args.problem.now in
    let timed = c.requires.timed in
    let is = c.steps_of_unit.ensures in
    let small : unsigned_abs c.steps_of_unit.result ≤ 10 ^ 32 =
    omega (
      arith,
      ap unsigned_abs is,
      grid_size c.args.timed.period problem.tech timed.least.range,
    ) in
    let grid = number_read c.steps_of_unit.result small ∙ is in
    let total : to_z w128 (of_z w128 c.in_ok-tree.tree.total) ≡ c.in_ok-tree.tree.total =
    omega (arith, ints, c.in_ok-tree.ensures.small_total) in
    let tree = rw (c.as_slice.ensures, timed.sinks_are, c.rotated-source.ensures)
    at c.in_ok-tree.ensures in
    rw total (is_report problem _ timed.least timed.at_times tree refl grid)
