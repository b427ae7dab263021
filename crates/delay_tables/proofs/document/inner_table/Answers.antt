use Rattle.delay_tables.proofs.Vocabulary.{◌∙◌, table_get}
use Rattle.delay_tables.proofs.document.inner_table.Goals as goal

pub returns-in-Some : goal.returns-in-Some
returns-in-Some c =
    let found =
    table_get c.get.result c.args.name.now c.args.document.now.entries c.get.ensures.value in
    c.as_table.ensures ∙ rw (← rw c.in-Some.is at found)

pub returns-in-None : goal.returns-in-None
returns-in-None c =
    let found =
    table_get c.get.result c.args.name.now c.args.document.now.entries c.get.ensures.value in
    rw (← rw c.in-None.is at found)
