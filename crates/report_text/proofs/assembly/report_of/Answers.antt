use Rattle.report_text.proofs.Vocabulary.{◌≡◌, to_z, of_z, rules, w128, grid_of}
use Rattle.report_text.proofs.assembly.report_of.Goals as goal

pub returns : goal.returns
returns c =
    let parts = c.args.parts in
    let den : to_z w128 (of_z w128 c.den.result) ≡ parts.heading.period.den = search rules in
    let grid : to_z w128 (of_z w128 c.steps_of_unit.result)
    ≡ grid_of parts.heading.period c.args.tech.now = search rules in
    search rules
