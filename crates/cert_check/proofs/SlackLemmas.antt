-- What true slacks say of the period, and of those that are printed.
use Rattle.cert_check.proofs.Vocabulary.{◌≡◌, ◌<◌, ◌↔◌, ◌*◌, ◌/◌, ℕ, suc, ℤ, pos, negsuc, ◌-ℤ◌, ◌*ℤ◌, ◌≤ℤ◌, List, Option, Some, None, sym, ap, subst, ◌∙◌, arith, IfSome, nat_abs, slice_get, ints, Circuit, Tech, HasSlack, MeetsAt, IsPath, arrival_of, AreOneSlack, HasSlackRoom, IsFromZero}
use Rattle.std.proofs.Math.Nat.{mul-div_cancel, mul_right_comm}
use Rattle.cts_base.specs.declared.fraction.Fraction.{Fraction}
use Rattle.cts_base.proofs.OneFraction.{one_fraction, other_sign}
use Rattle.cts_model.specs.declared.schedule.Slack.{Slack}
use Rattle.cts_model.specs.Vocabulary.{IsSlack, IsSlackOf}
use Rattle.cert_check.proofs.MarkLemmas.{some_if}

-- ---- fractions that are numbers over a scale

-- a factor that isn't 0 cancels
cancel : (a b scale : ℕ) → 0 < scale → a * scale ≡ b * scale → a ≡ b
cancel a b scale some same =
    sym (mul-div_cancel a some) ∙ ap (λ n. n / scale) same ∙ mul-div_cancel b some

-- two fractions that are one number over a scale have one value
one_size : (scale a b c d least : ℕ) → 0 < scale → a * scale ≡ least * b → c * scale ≡ least * d
    → a * d ≡ c * b
one_size scale a b c d least some one other = cancel (a * d) (c * b) scale some
    (mul_right_comm a d scale ∙ ap (λ n. n * d) one ∙ mul_right_comm least b d
    ∙ sym (mul_right_comm c b scale ∙ ap (λ n. n * b) other))

one_value : (scale : ℕ) (a b c d least : ℤ) → 0 < scale → pos 1 ≤ℤ b → pos 1 ≤ℤ d
    → a *ℤ pos scale ≡ least *ℤ b → c *ℤ pos scale ≡ least *ℤ d → a *ℤ d ≡ c *ℤ b
one_value scale (pos a) (pos b) (pos c) (pos d) (pos l) some some_b some_d one other =
    let same = one_size scale a b c d l some (omega (arith, ints, one)) (omega (
      arith,
      ints,
      other,
    )) in
    omega (arith, ints, same)
one_value scale (negsuc a) (pos b) (negsuc c) (pos d) (negsuc l) some some_b some_d one other =
    let same = one_size scale (suc a) b (suc c) d (suc l) some (omega (arith, ints, one))
    (omega (arith, ints, other)) in
    omega (arith, ints, same)
one_value scale (pos a) (pos b) c d (negsuc l) some some_b some_d one other =
    absurd (other_sign a scale l b (omega (arith, ints, some_b)) one)
one_value scale (negsuc a) (pos b) c d (pos l) some some_b some_d one other =
    absurd (other_sign l b a scale some (sym one))
one_value scale a b (pos c) (pos d) (negsuc l) some some_b some_d one other =
    absurd (other_sign c scale l d (omega (arith, ints, some_d)) other)
one_value scale a b (negsuc c) (pos d) (pos l) some some_b some_d one other =
    absurd (other_sign l d c scale some (sym other))
one_value scale a (negsuc b) c d l some some_b some_d one other = absurd (omega (
  arith,
  ints,
  some_b,
))
one_value scale a b c (negsuc d) l some some_b some_d one other = absurd (omega (
  arith,
  ints,
  some_d,
))

-- a fraction isn't below 0 exactly where the number isn't
from_zero : (scale : ℕ) (num den least : ℤ) → 0 < scale → pos 1 ≤ℤ den
    → num *ℤ pos scale ≡ least *ℤ den → (pos 0 ≤ℤ num) ↔ (pos 0 ≤ℤ least)
from_zero scale (pos a) (pos b) (pos l) some some_b one =
    (λ _. omega (arith, ints), λ _. omega (arith, ints))
from_zero scale (negsuc a) (pos b) (negsuc l) some some_b one =
    (λ low. absurd (omega (arith, ints, low)), λ low. absurd (omega (arith, ints, low)))
from_zero scale (pos a) (pos b) (negsuc l) some some_b one =
    absurd (other_sign a scale l b (omega (arith, ints, some_b)) one)
from_zero scale (negsuc a) (pos b) (pos l) some some_b one =
    absurd (other_sign l b a scale some (sym one))
from_zero scale a (negsuc b) l some some_b one = absurd (omega (arith, ints, some_b))

-- the scale of a period isn't 0
some_scale : (den : ℤ) → pos 1 ≤ℤ den → 0 < nat_abs den
some_scale (pos n) some = omega (arith, ints, some)
some_scale (negsuc n) some = absurd (omega (arith, ints, some))

-- ---- slacks of a register

module _ (circuit : Circuit) (scale : ℕ) (some : 0 < scale)
    (spare : (from to : ℕ) (path : List ℕ) → ℤ) (to : ℕ) where
  -- no path spares less than nothing exactly where the slack isn't below 0
  spares : (slack : Option Fraction) → IsSlackOf circuit scale spare to slack
      → IsFromZero slack
      ↔ ((from : ℕ) (path : List ℕ) → IsPath circuit from to path → pos 0 ≤ℤ spare from to path)
  spares None is = (λ _ from path joins. absurd (is from path joins), λ _. tt)
  spares (Some slack) (least, shown, value) =
      let sign = from_zero scale slack.num slack.den least some slack.lowest.some_den value in (
        λ low from path joins.
            let first = sign.0 low in
            let second = shown.each from path joins in
            omega (arith, ints, first, second),
        λ each. sign.1
            (subst (λ z. pos 0 ≤ℤ z) shown.shown (each shown.from shown.path shown.joins)),
      )

  -- a slack is right exactly where it is the true one
  one_slack : (slack own : Option Fraction) → IsSlackOf circuit scale spare to own
      → AreOneSlack slack own ↔ IsSlackOf circuit scale spare to slack
  one_slack None None is = (λ _. is, λ _. tt)
  one_slack None (Some own) (least, shown, value) =
      (λ none. absurd none, λ none. absurd (none shown.from shown.path shown.joins))
  one_slack (Some slack) None is = (
    λ none. absurd none,
    λ (least, shown, value). absurd (is shown.from shown.path shown.joins),
  )
  one_slack (Some slack) (Some own) (least, shown, value) = (
    λ (num, den). (
      least,
      shown,
      ap (λ z. z *ℤ pos scale) num ∙ value ∙ ap (λ z. least *ℤ z) (sym den),
    ),
    λ (low, lowest, is).
        let first = lowest.each shown.from shown.path shown.joins in
        let second = shown.each lowest.from lowest.path lowest.joins in
        let same : low ≡ least =
        omega (arith, ints, first, second, shown.shown, lowest.shown) in
        one_fraction slack.num slack.den own.num own.den slack.lowest own.lowest
        (one_value scale slack.num slack.den own.num own.den least some slack.lowest.some_den
        own.lowest.some_den (is ∙ ap (λ z. z *ℤ slack.den) same) value),
  )

-- what is left isn't below 0 exactly where the one isn't above the other
not_below : (one other : ℤ) → (pos 0 ≤ℤ (other -ℤ one)) ↔ (one ≤ℤ other)
not_below one other = (λ left. omega (arith, ints, left), λ low. omega (arith, ints, low))

-- ---- slacks of all registers

module _ (circuit : Circuit) (tech : Tech) (period : Fraction) (at : List ℤ) (register : ℕ)
    (own : Slack)
    (is : IsSlack circuit tech (nat_abs period.den) period.num (arrival_of at) register own) where
  -- the scale isn't 0
  some : 0 < nat_abs period.den
  some = some_scale period.den period.lowest.some_den

  -- paths meet the period exactly where neither slack is below 0
  pub room_meets : HasSlackRoom own ↔ MeetsAt circuit tech period at register
  room_meets = search (arith, spares, some, not_below)

  -- other slacks are right exactly where they are these
  same_slack : (slack : Slack)
      → (AreOneSlack slack.setup own.setup × AreOneSlack slack.hold own.hold)
      ↔ IsSlack circuit tech (nat_abs period.den) period.num (arrival_of at) register slack
  same_slack slack = search (arith, one_slack, some)

  -- so it is with those that are printed for the register
  pub prints_slack : (slacks : List Slack) (slack : Slack)
      → slice_get slacks register ≡ Some slack
      → (AreOneSlack slack.setup own.setup × AreOneSlack slack.hold own.hold)
      ↔ HasSlack circuit tech period at slacks register
  prints_slack slacks slack there = (
    λ both. subst (λ found. IfSome found (IsSlack circuit tech (nat_abs period.den) period.num
        (arrival_of at) register)) (sym there) ((same_slack slack).0 both),
    λ right. (same_slack slack).1 (some_if (slice_get slacks register) (IsSlack circuit tech
        (nat_abs period.den) period.num (arrival_of at) register) slack right there),
  )
