use Rattle.tilted_rect.proofs.Vocabulary.{sym, ap, subst, ◌∙◌, rules, to_z-of_z, w128, int_max, between, IsLeastDistance}
use Rattle.tilted_rect.proofs.CodeNumbers.{kept, between_read}
use Rattle.tilted_rect.proofs.RectLemmas.{gap_is_least}
use Rattle.tilted_rect.proofs.rect.Rect.gap.Goals as goal

pub returns-clause-value : goal.returns-clause-value
returns-clause-value c =
    let rect = c.args.self in
    let other = c.args.other in
    let in_u = between_read c.between-u.result rect.ulo rect.uhi other.ulo other.uhi (search rules)
    (search rules) (search rules) (search rules) (search rules) c.between-u.ensures in
    let in_v = between_read c.between-v.result rect.vlo rect.vhi other.vlo other.vhi (search rules)
    (search rules) (search rules) (search rules) (search rules) c.between-v.ensures in
    to_z-of_z w128 c.max.result (search rules)
    ∙ c.max.ensures.value
    ∙ ap (λ z. int_max z (kept c.between-v.result)) in_u
    ∙ ap (λ z. int_max (between rect.ulo rect.uhi other.ulo other.uhi) z) in_v

pub returns-clause-least : goal.returns-clause-least
returns-clause-least c = subst (λ gap. IsLeastDistance c.args.self c.args.other gap)
    (sym (returns-clause-value c)) (gap_is_least c.args.self c.args.other)
