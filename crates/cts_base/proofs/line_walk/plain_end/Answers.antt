use Rattle.cts_base.proofs.Searches.{feed_first, no_comment}
use Rattle.cts_base.proofs.line_walk.plain_end.Goals as goal

pub returns-then-text-end-eq10-clause-end : goal.returns-then-text-end-eq10-clause-end
returns-then-text-end-eq10-clause-end c =
    feed_first c.args.text.now c.in_ok-end.end c.in_ok-end.ensures c.if-text-end-eq10.true

pub returns-then-text-end-eq10-clause-plain : goal.returns-then-text-end-eq10-clause-plain
returns-then-text-end-eq10-clause-plain c =
    no_comment c.args.text.now c.in_ok-end.end c.in_ok-end.ensures
