use Rattle.report_text.proofs.Vocabulary.{arith}
use Rattle.report_text.proofs.RowLemmas.{no_rows, rows_next, rows_number, rows_stop}
use Rattle.report_text.proofs.WalkLemmas.{passed_on}
use Rattle.report_text.proofs.reader.rows.read_rows.Goals as goal

pub read-requires : goal.read-requires
read-requires g c = search (arith, rows_number, c.loop-place.invariant)

pub returns-in_err-row-clause-fault : goal.returns-in_err-row-clause-fault
returns-in_err-row-clause-fault g c =
    passed_on _ _ _ c.from_residual.ensures.1 (rows_stop _ _ _ c.loop-place.invariant _ _
    c.loop-place-test.true c.in_err-row.ensures.fault)

pub loop-place-init : goal.loop-place-init
loop-place-init g c = search (arith, no_rows, c.new-rows.ensures)

pub loop-place-preserved : goal.loop-place-preserved
loop-place-preserved g c = search (arith, rows_next)
