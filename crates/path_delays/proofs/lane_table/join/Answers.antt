-- In the lane are the least and the greatest of both, in the others what was there.
use Rattle.path_delays.proofs.Vocabulary.{◌≡◌, ◌==◌, if◌then◌else◌, subst, lane_of, merged_sums}
use Rattle.path_delays.proofs.RowLemmas.{row_gets, row_read}
use Rattle.path_delays.proofs.lane_table.join.Goals as goal

pub returns-then-first : goal.returns-then-first
returns-then-first g c = rw c.if-first.true (row_gets g.R.Row.wide c.args.rows.now.items
    c.args.signal c.join.new.self c.requires.signal _ (λ other low.
    subst (λ start. lane_of (g.R.Row.wide c.join.new.self) other
    ≡ (if other == c.args.lane.number then merged_sums start c.args.sums else start))
    (c.none-row.ensures other low) (c.join.ensures other low)))

pub returns-else-first : goal.returns-else-first
returns-else-first g c = rw c.if-first.false (row_gets g.R.Row.wide c.args.rows.now.items
    c.args.signal c.join-else-first.new.self c.requires.signal _
    (rw (row_read g.R.Row.wide c.args.rows.now.items c.args.signal c.index_mut-else-first.result.now
    c.requires.signal c.index_mut-else-first.ensures.value) c.join-else-first.ensures))
