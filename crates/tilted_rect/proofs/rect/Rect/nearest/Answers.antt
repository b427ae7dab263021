use Rattle.tilted_rect.proofs.Vocabulary.{sym, subst, rules, IsUvMultipleOf, IsNearest}
use Rattle.tilted_rect.proofs.CodeNumbers.{clamp_read}
use Rattle.tilted_rect.proofs.RectLemmas.{clamped_nearest, clamped_multiple}
use Rattle.tilted_rect.proofs.rect.Rect.nearest.Goals as goal

pub returns-clause-value : goal.returns-clause-value
returns-clause-value c =
    let rect = c.args.self in
    let u = clamp_read c.clamp.result rect.ulo rect.uhi c.args.to.u (search rules) (search rules)
    (search rules) (search rules) c.clamp.ensures.value in
    let v = clamp_read c.clamp-2.result rect.vlo rect.vhi c.args.to.v (search rules) (search rules)
    (search rules) (search rules) c.clamp-2.ensures.value in
    λ i. record { u = u i; v = v i }

pub returns-clause-nearest : goal.returns-clause-nearest
returns-clause-nearest c = subst (λ at. IsNearest c.args.self c.args.to at)
    (sym (returns-clause-value c)) (clamped_nearest c.args.self c.args.to)

pub returns-clause-multiple : goal.returns-clause-multiple
returns-clause-multiple c =
    let rect = c.args.self in
    subst (λ at. IsUvMultipleOf 4 at) (sym (returns-clause-value c)) (record {
      u = clamped_multiple 4 rect.ulo rect.uhi c.args.to.u rect.valid.least_u.multiple
          rect.valid.greatest_u.multiple c.requires.multiple.u;
      v = clamped_multiple 4 rect.vlo rect.vhi c.args.to.v rect.valid.least_v.multiple
          rect.valid.greatest_v.multiple c.requires.multiple.v;
    })
