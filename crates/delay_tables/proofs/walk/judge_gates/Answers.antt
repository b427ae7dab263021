use Rattle.delay_tables.proofs.Vocabulary.{◌∙◌, get_or, sym, arith, err_from_is_err_and, table_view, And}
use Rattle.cts_model.specs.table.TableKeys as tables
use Rattle.cts_model.specs.table.TableFlaws as flaws
use Rattle.delay_tables.proofs.Judgements.{fault_here, flaws_more}
use Rattle.delay_tables.proofs.walk.judge_gates.Goals as goal

pub returns-in_err-judge_gate : goal.returns-in_err-judge_gate
returns-in_err-judge_gate c =
    let p = err_from_is_err_and c.from_residual.result c.from_residual.ensures.1 in
    let kind = get_or c.args.kinds.now c.loop-kind.kind-index And in
    let more = flaws_more tables.gate_section (flaws.section_flaw (table_view c.args.document.now))
    c.args.kinds.now c.loop-kind.kind-index And (omega arith) in
    rw (p.1, p.2)
    (fault_here _ (flaws.section_flaw (table_view c.args.document.now) (tables.gate_section kind)) _
    _ (sym c.loop-kind.invariant ∙ more) c.in_err-judge_gate.ensures)
