use Rattle.delay_tables.proofs.Vocabulary.{◌∙◌, sym, arith, err_from_is_err_and, table_view, section_of}
use Rattle.cts_model.specs.table.TableFlaws as flaws
use Rattle.delay_tables.proofs.Judgements.{fault_here, flaw_next, flaws_more}
use Rattle.delay_tables.proofs.walk.judge_sections.Goals as goal

pub returns-in_err-judge_section : goal.returns-in_err-judge_section
returns-in_err-judge_section c =
    let p = err_from_is_err_and c.from_residual.result c.from_residual.ensures.1 in
    let more = flaws_more section_of (flaws.section_flaw (table_view c.args.document.now))
    c.args.sections.now c.loop-section.section-index _ (omega arith) in
    rw (p.1, p.2)
    (fault_here _ _ _ _ (sym c.loop-section.invariant ∙ more) c.in_err-judge_section.ensures)

pub loop-section-preserved : goal.loop-section-preserved
loop-section-preserved c =
    let more = flaws_more section_of (flaws.section_flaw (table_view c.args.document.now))
    c.args.sections.now c.loop-section.section-index _ (omega arith) in
    flaw_next _ _ _ (sym c.loop-section.invariant ∙ more) c.in_ok-judge_section.ensures
