use Rattle.delay_tables.proofs.Vocabulary.{◌≡◌, drop, table_view}
use Rattle.cts_model.specs.table.TableFlaws as flaws
use Rattle.delay_tables.proofs.order.judge_gate_kinds.Given as goal

abbrev pub invariant-loop-kind : goal.invariant-loop-kind
invariant-loop-kind l =
    flaws.first_flaw (flaws.kind_flaw l.used (table_view l.document)) (drop l.kind-index l.kinds)
    ≡ flaws.first_flaw (flaws.kind_flaw l.used (table_view l.document)) l.kinds
