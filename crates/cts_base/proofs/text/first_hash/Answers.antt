use Rattle.cts_base.proofs.Searches.{first_position}
use Rattle.cts_base.specs.Words.{is_hash}
use Rattle.cts_base.proofs.text.first_hash.Goals as goal

pub returns : goal.returns
returns c = first_position is_hash c.args.line.now c.memchr.result c.memchr.ensures
