use Rattle.delay_tables.proofs.Vocabulary.{◌≡◌, drop, table_view, texts, keys_of}
use Rattle.cts_model.specs.table.TableFlaws as flaws
use Rattle.delay_tables.proofs.walk.judge_section.Given as goal

abbrev pub invariant-loop-key : goal.invariant-loop-key
invariant-loop-key l =
    flaws.first_flaw (flaws.key_flaw (texts l.way) (table_view l.document))
    (keys_of (drop l.key-index l.keys))
    ≡ flaws.first_flaw (flaws.key_flaw (texts l.way) (table_view l.document)) (keys_of l.keys)
