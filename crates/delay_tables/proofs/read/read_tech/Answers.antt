use Rattle.delay_tables.proofs.Vocabulary.{IfErr-weaker, IfOk-weaker, AcceptsTable, GivesKinds, RefusesTable, DenotesName}
use Rattle.delay_tables.proofs.FlawlessTables.{gives_kinds}
use Rattle.delay_tables.proofs.OneFault.{accepts_each, names_each, names_denoted}
use Rattle.delay_tables.proofs.read.read_tech.Goals as goal

pub returns-clause-given : goal.returns-clause-given
returns-clause-given c =
    IfOk-weaker c.accepted_table.result (AcceptsTable c.args.used.now c.args.bytes.now)
    (GivesKinds c.args.used.now)
    (λ tech accepted.
    gives_kinds c.args.used.now accepted.document tech accepted.flawless accepted.denotes.gates)
    c.accepted_table.ensures.ok

pub returns-clause-accepted : goal.returns-clause-accepted
returns-clause-accepted c = accepts_each c.args.used.now c.args.bytes.now c.accepted_table.result
    c.accepted_table.ensures.refused

pub returns-clause-faulty : goal.returns-clause-faulty
returns-clause-faulty c = names_each c.args.used.now c.args.bytes.now c.accepted_table.result
    c.accepted_table.ensures.ok c.accepted_table.ensures.refused

pub returns-clause-denoted : goal.returns-clause-denoted
returns-clause-denoted c = IfErr-weaker c.accepted_table.result
    (RefusesTable c.args.used.now c.args.bytes.now) (DenotesName c.args.bytes.now)
    (names_denoted c.args.used.now c.args.bytes.now) c.accepted_table.ensures.refused
