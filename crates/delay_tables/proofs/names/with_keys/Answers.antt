use Rattle.delay_tables.proofs.Vocabulary.{IfOk, ◌≡◌, ◌∙◌, ap, subst, fold, table_view, texts}
use Rattle.cts_model.specs.table.TableFlaws as flaws
use Rattle.delay_tables.proofs.UnknownNames.{key_names_are}
use Rattle.delay_tables.proofs.names.with_keys.Goals as goal

pub returns : goal.returns
returns c =
    subst (λ known. IfOk c.with_unknown.result (λ lesser. lesser ≡ fold flaws.lesser_name
    c.args.least (flaws.unknown_at (texts c.args.way.now) known (table_view c.args.document.now))))
    (ap texts (c.as_slice.ensures.value ∙ c.in_ok-known.ensures) ∙ key_names_are c.args.keys.now)
    c.with_unknown.ensures
