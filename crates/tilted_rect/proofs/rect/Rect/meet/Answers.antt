use Rattle.tilted_rect.proofs.Vocabulary.{refl, rules, arith, ints, int_max, int_min}
use Rattle.tilted_rect.proofs.CodeNumbers.{two_read}
use Rattle.tilted_rect.proofs.RectLemmas.{is_rect_along, meet_valid, meet_points, gap_above_u, gap_above_v, gap_none}
use Rattle.tilted_rect.proofs.rect.Rect.meet.Goals as goal
use Rattle.tilted_rect.proofs.rect.Rect.meet.Goals.{then-uhi-ulo-via-then-uhi-ulo, then-uhi-ulo-via-else-uhi-ulo+then-vhi-vlo}

pub returns-then-uhi-ulo-clause-none : goal.returns-then-uhi-ulo-clause-none
returns-then-uhi-ulo-clause-none c =
    let rect = c.args.self in
    let other = c.args.other in
    let ulo = two_read int_max c.max-ulo.result rect.ulo other.ulo (search rules) (search rules)
    (search rules) c.max-ulo.ensures.value in
    let uhi = two_read int_min c.min-uhi.result rect.uhi other.uhi (search rules) (search rules)
    (search rules) c.min-uhi.ensures.value in
    let vlo = two_read int_max c.max-vlo.result rect.vlo other.vlo (search rules) (search rules)
    (search rules) c.max-vlo.ensures.value in
    let vhi = two_read int_min c.min-vhi.result rect.vhi other.vhi (search rules) (search rules)
    (search rules) c.min-vhi.ensures.value in
    elim c.then-uhi-ulo.branch [
      | then-uhi-ulo-via-then-uhi-ulo w ↦ (
        λ _. gap_above_u rect other (omega (arith, ints, ulo, uhi, w.if-uhi-ulo.true)),
        λ _. refl,
      )
      | then-uhi-ulo-via-else-uhi-ulo+then-vhi-vlo w ↦ (
        λ _. gap_above_v rect other (omega (arith, ints, vlo, vhi, w.if-vhi-vlo.true)),
        λ _. refl,
      )
    ]

pub invariant_of-result : goal.invariant_of-result
invariant_of-result c =
    let rect = c.args.self in
    let other = c.args.other in
    let ulo = two_read int_max c.max-ulo.result rect.ulo other.ulo (search rules) (search rules)
    (search rules) c.max-ulo.ensures.value in
    let uhi = two_read int_min c.min-uhi.result rect.uhi other.uhi (search rules) (search rules)
    (search rules) c.min-uhi.ensures.value in
    let vlo = two_read int_max c.max-vlo.result rect.vlo other.vlo (search rules) (search rules)
    (search rules) c.max-vlo.ensures.value in
    let vhi = two_read int_min c.min-vhi.result rect.vhi other.vhi (search rules) (search rules)
    (search rules) c.min-vhi.ensures.value in
    record {
      valid = is_rect_along _ _ _ _ _ _ _ _ ulo uhi vlo vhi
          (meet_valid rect other (omega (arith, ints, ulo, uhi, c.if-uhi-ulo.false))
          (omega (arith, ints, vlo, vhi, c.if-vhi-vlo.false)));
    }

pub returns-clause-sides : goal.returns-clause-sides
returns-clause-sides c =
    let rect = c.args.self in
    let other = c.args.other in
    record {
      ulo = two_read int_max c.max-ulo.result rect.ulo other.ulo (search rules) (search rules)
          (search rules) c.max-ulo.ensures.value;
      uhi = two_read int_min c.min-uhi.result rect.uhi other.uhi (search rules) (search rules)
          (search rules) c.min-uhi.ensures.value;
      vlo = two_read int_max c.max-vlo.result rect.vlo other.vlo (search rules) (search rules)
          (search rules) c.max-vlo.ensures.value;
      vhi = two_read int_min c.min-vhi.result rect.vhi other.vhi (search rules) (search rules)
          (search rules) c.min-vhi.ensures.value;
    }

pub returns-clause-points : goal.returns-clause-points
returns-clause-points c = meet_points c.args.self c.args.other _ (returns-clause-sides c)

pub returns-clause-none : goal.returns-clause-none
returns-clause-none c =
    let sides = returns-clause-sides c in
    let none = gap_none c.args.self c.args.other
    (omega (arith, ints, sides.ulo, sides.uhi, c.if-uhi-ulo.false))
    (omega (arith, ints, sides.vlo, sides.vhi, c.if-vhi-vlo.false)) in
    (λ some. cc, λ above. absurd (omega (arith, ints, none)))
