use Rattle.delay_tables.proofs.Vocabulary.{◌≡◌, map, string_bytes, fold, texts}
use Rattle.cts_model.specs.table.TableFlaws as flaws
use Rattle.delay_tables.proofs.names.with_unknown_in.Given as goal

abbrev pub invariant-loop-name : goal.invariant-loop-name
invariant-loop-name l =
    fold flaws.lesser_name l.least
    (flaws.unknown_of (texts l.way) (texts l.known) (map string_bytes l.name-iterator))
    ≡ fold flaws.lesser_name l.initial.least
    (flaws.unknown_of (texts l.way) (texts l.known) (map string_bytes l.initial.name-iterator))
