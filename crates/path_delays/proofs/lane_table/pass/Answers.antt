-- The row holds the sums of the other one after the gate.
use Rattle.path_delays.proofs.Vocabulary.{subst, AllBounded}
use Rattle.path_delays.proofs.RowLemmas.{row_gets, row_read}
use Rattle.path_delays.proofs.lane_table.pass.Goals as goal

pub pass-requires-clause-sums : goal.pass-requires-clause-sums
pass-requires-clause-sums g c = subst (AllBounded g.R.Row.limit)
    (row_read g.R.Row.wide c.args.rows.now.items c.args.from c.index.result.now c.requires.known
    c.index.ensures) c.requires.sums

pub returns : goal.returns
returns g c = row_gets g.R.Row.wide c.args.rows.now.items c.args.to c.pass.new.self
    c.requires.reader _ (rw (row_read g.R.Row.wide c.args.rows.now.items c.args.from
    c.index.result.now c.requires.known c.index.ensures) c.pass.ensures)
