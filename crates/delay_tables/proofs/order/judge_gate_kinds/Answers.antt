use Rattle.delay_tables.proofs.Vocabulary.{◌∙◌, sym, arith, err_from_is_err_and, table_view}
use Rattle.cts_model.specs.table.TableFlaws as flaws
use Rattle.delay_tables.proofs.Judgements.{fault_here, flaws_from}
use Rattle.delay_tables.proofs.order.judge_gate_kinds.Goals as goal

pub returns-in_err-judge_kind : goal.returns-in_err-judge_kind
returns-in_err-judge_kind c =
    let p = err_from_is_err_and c.from_residual.result c.from_residual.ensures.1 in
    let more = flaws_from (flaws.kind_flaw c.args.used.now (table_view c.args.document.now))
    c.args.kinds.now c.loop-kind.kind-index _ (omega arith) in
    rw (p.1, p.2)
    (fault_here _ _ _ _ (sym c.loop-kind.invariant ∙ more) c.in_err-judge_kind.ensures)
