use Rattle.delay_tables.proofs.Vocabulary.{◌∙◌, sym, arith, err_from_is_err_and, table_view}
use Rattle.delay_tables.proofs.Judgements.{fault_here, flaw_next, way_more, way_all}
use Rattle.delay_tables.proofs.walk.judge_way.Goals as goal

pub returns-in_err-judge_table : goal.returns-in_err-judge_table
returns-in_err-judge_table c =
    let p = err_from_is_err_and c.from_residual.result c.from_residual.ensures.1 in
    rw (p.1, p.2)
    (fault_here _ _ _ _
    (sym c.loop-place.invariant
    ∙ way_more (table_view c.args.document.now) c.args.way.now c.loop-place.place _ (omega arith))
    c.in_err-judge_table.ensures)

pub loop-place-preserved : goal.loop-place-preserved
loop-place-preserved c =
    flaw_next _ _ _
    (sym c.loop-place.invariant
    ∙ way_more (table_view c.args.document.now) c.args.way.now c.loop-place.place _ (omega arith))
    c.in_ok-judge_table.ensures

pub returns : goal.returns
returns c = sym c.loop-place.invariant
    ∙ way_all (table_view c.args.document.now) _ c.args.way.now c.loop-place.place (omega arith)
