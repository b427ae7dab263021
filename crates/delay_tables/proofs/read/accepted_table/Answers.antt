use Rattle.delay_tables.proofs.Vocabulary.{err_from_is_err_and, table_view}
use Rattle.delay_tables.proofs.FlawlessTables.{is_flawless}
use Rattle.delay_tables.proofs.OneFault.{refuses_flaw}
use Rattle.delay_tables.proofs.read.accepted_table.Goals as goal

pub returns-in_err-judge-clause-refused : goal.returns-in_err-judge-clause-refused
returns-in_err-judge-clause-refused c =
    let p = err_from_is_err_and c.from_residual-in_err-judge.result
    c.from_residual-in_err-judge.ensures.1 in
    rw (p.1, p.2)
    (refuses_flaw c.args.used.now c.args.bytes.now
    (table_view c.in_ok-document.document) _ c.in_ok-document.ensures.ok c.in_err-judge.ensures)

pub table_denoted-requires-clause-keys : goal.table_denoted-requires-clause-keys
table_denoted-requires-clause-keys c =
    (is_flawless c.args.used.now (table_view c.in_ok-document.document) c.in_ok-judge.ensures).keys

pub table_denoted-requires-clause-order : goal.table_denoted-requires-clause-order
table_denoted-requires-clause-order c =
    (is_flawless c.args.used.now (table_view c.in_ok-document.document) c.in_ok-judge.ensures).order

pub returns-in_err-table_denoted-clause-ok : goal.returns-in_err-table_denoted-clause-ok
returns-in_err-table_denoted-clause-ok c =
    let p = err_from_is_err_and c.from_residual-in_err-table_denoted.result
    c.from_residual-in_err-table_denoted.ensures.1 in
    rw p.1 tt

pub returns-in_err-table_denoted-clause-refused : goal.returns-in_err-table_denoted-clause-refused
returns-in_err-table_denoted-clause-refused c =
    let p = err_from_is_err_and c.from_residual-in_err-table_denoted.result
    c.from_residual-in_err-table_denoted.ensures.1 in
    rw (p.1, p.2) tt
