use Rattle.std.proofs.Common.{not, sym, ap, ◌∙◌, rules}
use Rattle.std.specs.Str.{bytes_eq}
use Rattle.cts_base.proofs.ListTests.{list_any-map}
use Rattle.name_set.proofs.NameNumbers.{insert_key-map}
use Rattle.name_set.proofs.name_set.NameSet.insert.Goals as goal

pub returns-in_err-insert-clause-err : goal.returns-in_err-insert-clause-err
returns-in_err-insert-clause-err c =
    let absent = list_any-map (λ key. key.bytes.now) (bytes_eq c.args.name.now)
    c.self.inside.names.keys ∙ c.in_err-insert.ensures.absent in
    rw (← c.self.view_is) (search (rules, absent))

pub returns-clause-new : goal.returns-clause-new
returns-clause-new c = rw (← c.self.view_is) (c.in_ok-insert.ensures.added ∙ ap not
    (sym (list_any-map (λ key. key.bytes.now) (bytes_eq c.args.name.now)
    c.self.inside.names.keys)))

pub returns-clause-names : goal.returns-clause-names
returns-clause-names c = rw (← c.self.view_is, c.in_ok-insert.ensures.keys)
    (insert_key-map (λ key. key.bytes.now) c.self.inside.names.keys
    (record { bytes = c.args.name }))
