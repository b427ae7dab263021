-- The row holds the least and the greatest of both.
use Rattle.path_delays.proofs.Vocabulary.{◌∙◌, ap, subst, AllBounded, lane_of, merged_sums}
use Rattle.path_delays.proofs.RowLemmas.{row_gets, row_read}
use Rattle.path_delays.proofs.lane_table.merge.Goals as goal

pub pass-requires-clause-sums : goal.pass-requires-clause-sums
pass-requires-clause-sums g c = subst (AllBounded g.R.Row.limit)
    (row_read g.R.Row.wide c.args.rows.now.items c.args.from c.index.result.now c.requires.known
    c.index.ensures) c.requires.sums

pub returns : goal.returns
returns g c = row_gets g.R.Row.wide c.args.rows.now.items c.args.to c.merge.new.self
    c.requires.reader _ (λ lane low.
    rw (
      row_read g.R.Row.wide c.args.rows.now.items c.args.from c.index.result.now
          c.requires.known c.index.ensures,
      row_read g.R.Row.wide c.args.rows.now.items c.args.to
          c.index_mut.result.now c.requires.reader c.index_mut.ensures.value,
    ) (c.merge.ensures lane low
    ∙ ap (merged_sums (lane_of (g.R.Row.wide c.index_mut.result.now) lane))
    (c.pass.ensures lane low)))
