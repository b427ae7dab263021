use Rattle.delay_tables.proofs.Vocabulary.{◌∙◌, ap, get_member, option_and_then, table_get}
use Rattle.delay_tables.proofs.document.value_at.Goals as goal

pub returns-in-Some : goal.returns-in-Some
returns-in-Some c =
    table_get c.get.result c.args.name.now c.in-Some.table.now.entries c.get.ensures.value
    ∙ ap (option_and_then (get_member c.args.name.now)) c.in-Some.ensures
