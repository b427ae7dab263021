use Rattle.delay_tables.proofs.Vocabulary.{◌≡◌, drop, map, fold, flat_map, table_view, section_of}
use Rattle.cts_model.specs.table.TableFlaws as flaws
use Rattle.delay_tables.proofs.names.with_sections.Given as goal

abbrev pub invariant-loop-section : goal.invariant-loop-section
invariant-loop-section l =
    fold flaws.lesser_name l.least
    (flat_map (flaws.unknown_in_section (table_view l.document))
    (map section_of (drop l.section-index l.sections)))
    ≡ fold flaws.lesser_name l.initial.least
    (flat_map (flaws.unknown_in_section (table_view l.document)) (map section_of l.sections))
