use Rattle.std.proofs.Common.{sym, ◌∙◌}
use Rattle.std.specs.Str.{bytes_eq}
use Rattle.name_set.proofs.NameNumbers.{position-map}
use Rattle.name_set.proofs.name_set.NameSet.number_of.Goals as goal

pub returns-in_err-number : goal.returns-in_err-number
returns-in_err-number c = rw (← c.self.view_is)
    (c.from_residual.ensures ∙ sym c.in_err-number.was ∙ c.get_index_of.ensures.index
    ∙ sym (position-map (λ key. key.bytes.now) (bytes_eq c.args.name.now)
    c.self.inside.names.keys))

pub returns : goal.returns
returns c = rw (← c.self.view_is)
    (sym c.in_ok-number.was ∙ c.get_index_of.ensures.index
    ∙ sym (position-map (λ key. key.bytes.now) (bytes_eq c.args.name.now)
    c.self.inside.names.keys))
