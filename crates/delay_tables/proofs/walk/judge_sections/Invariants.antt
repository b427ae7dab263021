use Rattle.delay_tables.proofs.Vocabulary.{◌≡◌, drop, map, table_view, section_of}
use Rattle.cts_model.specs.table.TableFlaws as flaws
use Rattle.delay_tables.proofs.walk.judge_sections.Given as goal

abbrev pub invariant-loop-section : goal.invariant-loop-section
invariant-loop-section l =
    flaws.first_flaw (flaws.section_flaw (table_view l.document))
    (map section_of (drop l.section-index l.sections))
    ≡ flaws.first_flaw (flaws.section_flaw (table_view l.document)) (map section_of l.sections)
