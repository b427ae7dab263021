-- The gains over the least common multiple are admitted, and their least arrivals spare the value.
use Rattle.safety_margin.proofs.Vocabulary.{◌≡◌, ◌*◌, ◌^◌, ℤ, pos, ◌*ℤ◌, ◌≤ℤ◌, ap, subst, sym, arith, nat_abs, ints, IsOver, Spares, AreLeastSparing}
use Rattle.safety_margin.proofs.CodeLemmas.{kept}
use Rattle.safety_margin.proofs.SharingLemmas.{admits, least_sparing, multiple, period_over, scale_is, value_over}
use Rattle.safety_margin.proofs.sparing.sparing_schedule.Goals as goal

pub least_arrivals-requires-clause-admitted : goal.least_arrivals-requires-clause-admitted
least_arrivals-requires-clause-admitted c =
    admits c.share_of.ensures c.gains_at-gains.ensures c.args.constraints.now c.requires.spared

-- the code's scale is the scale
scale_read : (z : ℤ) → pos 1 ≤ℤ z → z ≤ℤ pos (4097 * 10 ^ 8) → kept z ≡ z
scale_read z some fine = omega (arith, ints)

pub returns-clause-sparing : goal.returns-clause-sparing
returns-clause-sparing c =
    let gains = c.gains_at-gains.result in
    let share = c.share_of.ensures in
    let are = c.gains_at-gains.ensures in
    let kept_is = scale_read gains.scale gains.valid.some gains.valid.fine in
    let size : nat_abs gains.scale ≡ nat_abs c.args.period.den * nat_abs c.share_of.result.den =
    ap nat_abs (scale_is share are) in
    let number : ℤ = c.args.period.num *ℤ pos (nat_abs c.share_of.result.den) in
    let margin : ℤ = c.args.value.num *ℤ pos (nat_abs c.share_of.result.num) in
    rw kept_is (record {
      registers_are = c.in_ok-at.ensures.registers;
      den = multiple share are;
      number = number;
      number_is = subst (λ n. IsOver c.args.period n number) (sym size) (period_over share are);
      margin = margin;
      margin_is = subst (λ n. IsOver c.args.value n margin) (sym size) (value_over share are);
      least = subst (λ n. AreLeastSparing (Spares c.args.constraints.now) n number margin
          c.in_ok-at.at) (sym size) (least_sparing share are c.args.constraints.now
          c.in_ok-at.at c.in_ok-at.ensures.least);
    })

pub returns-clause-small : goal.returns-clause-small
returns-clause-small c = search (arith, scale_read)
