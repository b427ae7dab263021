use Rattle.std.proofs.Common.{sym, refl}
use Rattle.cts_base.proofs.LineLemmas.{lines_of-whole}
use Rattle.cts_base.proofs.line_walk.split_line.Goals as goal

pub returns-in-None-clause-line : goal.returns-in-None-clause-line
returns-in-None-clause-line c =
    let whole = lines_of-whole c.args.text.now (sym c.in-None.ensures) c.requires in
    rw (whole, c.without_carriage_return.ensures) refl
