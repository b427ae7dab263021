use Rattle.delay_tables.proofs.Vocabulary.{◌≡◌, drop, map, fold, flat_map, table_view}
use Rattle.cts_model.specs.table.TableFlaws as flaws
use Rattle.cts_model.specs.table.TableKeys as tables
use Rattle.delay_tables.proofs.names.with_gates.Given as goal

abbrev pub invariant-loop-kind : goal.invariant-loop-kind
invariant-loop-kind l =
    fold flaws.lesser_name l.least
    (flat_map (flaws.unknown_in_section (table_view l.document))
    (map tables.gate_section (drop l.kind-index l.kinds)))
    ≡ fold flaws.lesser_name l.initial.least
    (flat_map (flaws.unknown_in_section (table_view l.document)) (map tables.gate_section l.kinds))
