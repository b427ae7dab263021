use Rattle.delay_tables.proofs.Vocabulary.{◌≡◌, [], take, drop, table_view, texts}
use Rattle.cts_model.specs.table.TableFlaws as flaws
use Rattle.delay_tables.proofs.walk.judge_way.Given as goal

abbrev pub invariant-loop-place : goal.invariant-loop-place
invariant-loop-place l =
    flaws.way_flaw (texts (take l.place l.way)) (texts (drop l.place l.way)) (table_view l.document)
    ≡ flaws.way_flaw [] (texts l.way) (table_view l.document)
