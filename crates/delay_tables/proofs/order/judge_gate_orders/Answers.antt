use Rattle.delay_tables.proofs.Vocabulary.{◌∙◌, sym, arith, err_from_is_err_and, table_view}
use Rattle.cts_model.specs.table.TableFlaws as flaws
use Rattle.delay_tables.proofs.Judgements.{fault_here, flaw_next, flaws_from}
use Rattle.delay_tables.proofs.order.judge_gate_orders.Goals as goal

pub returns-in_err-judge_gate_order : goal.returns-in_err-judge_gate_order
returns-in_err-judge_gate_order c =
    let p = err_from_is_err_and c.from_residual.result c.from_residual.ensures.1 in
    let more = flaws_from (flaws.gate_flaw (table_view c.args.document.now)) c.args.kinds.now
    c.loop-kind.kind-index _ (omega arith) in
    rw (p.1, p.2)
    (fault_here _ _ _ _ (sym c.loop-kind.invariant ∙ more) c.in_err-judge_gate_order.ensures)

pub loop-kind-preserved : goal.loop-kind-preserved
loop-kind-preserved c =
    let more = flaws_from (flaws.gate_flaw (table_view c.args.document.now)) c.args.kinds.now
    c.loop-kind.kind-index _ (omega arith) in
    flaw_next _ _ _ (sym c.loop-kind.invariant ∙ more) c.in_ok-judge_gate_order.ensures
