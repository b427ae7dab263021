use Rattle.delay_tables.proofs.Vocabulary.{◌∙◌, ap, sym, map, ◌+◌, drop, arith, fold, flat_map, table_view, section_of}
use Rattle.cts_model.specs.table.TableFlaws as flaws
use Rattle.delay_tables.proofs.UnknownNames.{least_more}
use Rattle.delay_tables.proofs.names.with_sections.Goals as goal

pub loop-section-preserved : goal.loop-section-preserved
loop-section-preserved c =
    let unknown = flaws.unknown_in_section (table_view c.args.document.now) in
    let more = least_more section_of unknown c.loop-section.least c.args.sections.now
    c.loop-section.section-index _ (omega arith) in
    ap (λ least. fold flaws.lesser_name least
    (flat_map unknown
    (map section_of (drop (c.loop-section.section-index + 1) c.args.sections.now))))
    c.in_ok-least.ensures
    ∙ (sym more ∙ c.loop-section.invariant)
