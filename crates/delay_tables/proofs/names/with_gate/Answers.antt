use Rattle.delay_tables.proofs.Vocabulary.{IfOk, ◌≡◌, subst, [], ◌∷◌, codes, fold, table_view}
use Rattle.cts_model.specs.table.TableKeys as tables
use Rattle.cts_model.specs.table.TableFlaws as flaws
use Rattle.delay_tables.proofs.names.with_gate.Goals as goal

pub returns : goal.returns
returns c =
    subst (λ name. IfOk c.with_keys.result (λ lesser. lesser ≡ fold flaws.lesser_name c.args.least
    (flaws.unknown_in_section (table_view c.args.document.now)
    (record { way = codes "gate" ∷ name ∷ []; keys = tables.gate_keys }))))
    c.gate_name.ensures c.with_keys.ensures
