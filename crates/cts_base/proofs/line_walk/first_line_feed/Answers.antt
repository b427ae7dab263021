use Rattle.cts_base.proofs.Searches.{first_position}
use Rattle.cts_base.specs.Lines.{is_line_feed}
use Rattle.cts_base.proofs.line_walk.first_line_feed.Goals as goal

pub returns : goal.returns
returns c = first_position is_line_feed c.args.text.now c.memchr.result c.memchr.ensures
