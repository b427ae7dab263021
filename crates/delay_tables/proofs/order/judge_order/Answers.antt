use Rattle.delay_tables.proofs.Vocabulary.{refl, err_from_is_err_and, table_view}
use Rattle.cts_model.specs.table.TableFlaws as flaws
use Rattle.cts_model.specs.table.TableKeys as tables
use Rattle.delay_tables.proofs.Judgements.{fault_first, judges_next}
use Rattle.delay_tables.proofs.order.judge_order.Goals as goal

pub returns-in_err-judge_register_order : goal.returns-in_err-judge_register_order
returns-in_err-judge_register_order c =
    let document = table_view c.args.document.now in
    let p = err_from_is_err_and c.from_residual.result c.from_residual.ensures.1 in
    rw (p.1, p.2)
    (fault_first (flaws.register_flaw document)
    (flaws.first_flaw (flaws.gate_flaw document) tables.gate_kinds) _
    c.in_err-judge_register_order.ensures)

pub returns : goal.returns
returns c =
    let document = table_view c.args.document.now in
    judges_next c.judge_gate_orders.result (flaws.order_flaw document)
    (flaws.register_flaw document)
    (flaws.first_flaw (flaws.gate_flaw document) tables.gate_kinds) refl
    c.in_ok-judge_register_order.ensures c.judge_gate_orders.ensures
