use Rattle.std.proofs.Common.{sym, ◌∙◌}
use Rattle.std.specs.Str.{bytes_eq}
use Rattle.cts_base.proofs.ListTests.{list_any-map}
use Rattle.name_set.proofs.name_set.NameSet.contains.Goals as goal

pub returns : goal.returns
returns c = rw (← c.self.view_is) (c.contains.ensures
    ∙ sym (list_any-map (λ key. key.bytes.now) (bytes_eq c.args.name.now) c.self.inside.names.keys))
