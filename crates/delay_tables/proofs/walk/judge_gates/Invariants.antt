use Rattle.delay_tables.proofs.Vocabulary.{◌≡◌, drop, map, table_view}
use Rattle.cts_model.specs.table.TableFlaws as flaws
use Rattle.cts_model.specs.table.TableKeys as tables
use Rattle.delay_tables.proofs.walk.judge_gates.Given as goal

abbrev pub invariant-loop-kind : goal.invariant-loop-kind
invariant-loop-kind l =
    flaws.first_flaw (flaws.section_flaw (table_view l.document))
    (map tables.gate_section (drop l.kind-index l.kinds))
    ≡ flaws.first_flaw (flaws.section_flaw (table_view l.document))
    (map tables.gate_section l.kinds)
