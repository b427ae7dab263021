use Rattle.std.proofs.Common.{refl}
use Rattle.cts_base.proofs.LineLemmas.{lines_of-cut}
use Rattle.cts_base.proofs.line_walk.cut_at.Goals as goal

pub returns-clause-line : goal.returns-clause-line
returns-clause-line c = rw (
  lines_of-cut c.args.text.now c.args.end c.requires,
  c.split_at-2.ensures.back,
  c.split_at.ensures.back,
  c.without_carriage_return.ensures,
  c.split_at.ensures.front,
) refl
