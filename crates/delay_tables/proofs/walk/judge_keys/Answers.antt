use Rattle.delay_tables.proofs.Vocabulary.{err_from_is_err_and, table_view}
use Rattle.delay_tables.proofs.Judgements.{fault_here, judges_next, flaws-sections}
use Rattle.delay_tables.proofs.walk.judge_keys.Goals as goal

pub returns-in_err-judge_top_sections : goal.returns-in_err-judge_top_sections
returns-in_err-judge_top_sections c =
    let p = err_from_is_err_and c.from_residual.result c.from_residual.ensures.1 in
    rw (p.1, p.2)
    (fault_here _ _ _ _
    (flaws-sections (table_view c.args.document.now)) c.in_err-judge_top_sections.ensures)

pub returns : goal.returns
returns c =
    judges_next c.judge_gates.result _ _ _ (flaws-sections (table_view c.args.document.now))
    c.in_ok-judge_top_sections.ensures c.judge_gates.ensures
