-- What the gains of a trial are at its ratio, of one constraint and of a cycle.
use Rattle.critical_cycle.proofs.Vocabulary.{ℕ, ◌≡◌, ◌≤◌, ◌+◌, ◌*◌, ◌^◌, Bool, true, false, if◌then◌else◌, ℤ, pos, negsuc, neg_ℤ, ◌+ℤ◌, ◌-ℤ◌, ◌*ℤ◌, ◌≤ℤ◌, ◌<ℤ◌, List, [], ◌∷◌, length, get_or, refl, sym, ◌∙◌, ap, subst, arith, mul-le-mul_left, ints, mul-le, sum_by-cons, Fraction, Constraint, count_of, total_weight, total_count, IsBelow, Measure, Gains, CanTry, IsTrialAt, SatisfiesRatio, measured_count, cycle_count, cycle_weight, measured_weight, most_weight, SatisfiesGains, gain_of, total_gain, kept, up, down}
use Rattle.relaxation.specs.GainSizes.{AreSmallGains}
use Rattle.critical_cycle.proofs.ProductLemmas.{small_product_read}
use Rattle.critical_cycle.proofs.IntLemmas.{never, once, times-sub, times_times}
use Rattle.critical_cycle.proofs.SumLemmas.{AreSmallSums}

-- what is weighed less what is counted, of one and of others
gains_together : (den num weight weights whole : ℤ) (count counts total : ℕ)
    → whole ≡ weight +ℤ weights → total ≡ count + counts → ((den *ℤ weight) -ℤ (num *ℤ pos count))
    +ℤ ((den *ℤ weights) -ℤ (num *ℤ pos counts)) ≡ (den *ℤ whole) -ℤ (num *ℤ pos total)
gains_together den num weight weights whole count counts total both sum =
    let plain : up whole + down weight + down weights ≡ down whole + up weight + up weights =
    omega (arith, ints) in
    let high = ap (λ n. up den * n) plain in
    let low = ap (λ n. down den * n) plain in
    let more = ap (λ n. up num * n) sum in
    let less = ap (λ n. down num * n) sum in
    omega (arith, ints)

-- the gain of a constraint over numbers: what it weighs times the denominator, less what it counts
-- times the numerator
gain_over : (den num q p w : ℤ) (setup every : Bool) → ((den *ℤ q) *ℤ w) -ℤ (if
    setup then (den *ℤ p) +ℤ num else (if every then num else pos 0)) ≡ (den *ℤ ((q *ℤ w) -ℤ (p *ℤ
    pos (if setup then 1 else 0)))) -ℤ (num *ℤ pos (if every then 1 else (if setup then 1 else 0)))
gain_over den num q p w setup every = at setup every
  where
    -- over the products
    joined : (asked alike whole part counted less : ℤ) → asked ≡ alike → whole ≡ alike -ℤ part
        → less ≡ part +ℤ counted → asked -ℤ less ≡ whole -ℤ counted
    joined asked alike whole part counted less first second third = omega (arith, ints)

    -- where the period is counted
    due : (den *ℤ p) +ℤ num ≡ (den *ℤ (p *ℤ pos 1)) +ℤ (num *ℤ pos 1)
    due = rw (once p, once num) refl

    -- where it isn't
    due_every : num ≡ (den *ℤ (p *ℤ pos 0)) +ℤ (num *ℤ pos 1)
    due_every = rw (never p, never den, once num) (plain num)
      where
        plain : (a : ℤ) → a ≡ pos 0 +ℤ a
        plain a = omega (arith, ints)

    -- nor anything else
    due_never : pos 0 ≡ (den *ℤ (p *ℤ pos 0)) +ℤ (num *ℤ pos 0)
    due_never = rw (never p, never den, never num) refl

    at : (setup every : Bool) → ((den *ℤ q) *ℤ w) -ℤ (if setup then (den *ℤ p) +ℤ num else
        (if every then num else pos 0)) ≡ (den *ℤ ((q *ℤ w) -ℤ (p *ℤ pos (if setup then 1 else 0))))
        -ℤ (num *ℤ pos (if every then 1 else (if setup then 1 else 0)))
    at true true = joined _ (den *ℤ (q *ℤ w)) _ (den *ℤ (p *ℤ pos 1)) (num *ℤ pos 1) _
        (times_times den q w) (times-sub den (q *ℤ w) (p *ℤ pos 1)) due
    at true false = joined _ (den *ℤ (q *ℤ w)) _ (den *ℤ (p *ℤ pos 1)) (num *ℤ pos 1) _
        (times_times den q w) (times-sub den (q *ℤ w) (p *ℤ pos 1)) due
    at false true = joined _ (den *ℤ (q *ℤ w)) _ (den *ℤ (p *ℤ pos 0)) (num *ℤ pos 1) _
        (times_times den q w) (times-sub den (q *ℤ w) (p *ℤ pos 0)) due_every
    at false false = joined _ (den *ℤ (q *ℤ w)) _ (den *ℤ (p *ℤ pos 0)) (num *ℤ pos 0) _
        (times_times den q w) (times-sub den (q *ℤ w) (p *ℤ pos 0)) due_never

-- what a cycle weighs is what its first constraint weighs and what the others do
cycle_weight-cons : (measure : Measure) (step : Constraint) (steps : List Constraint) → cycle_weight
    measure (step ∷ steps) ≡ measured_weight measure step +ℤ cycle_weight measure steps
cycle_weight-cons measure step steps = sym (gains_together measure.scale
    measure.period step.weight (total_weight steps) (total_weight (step ∷ steps)) (count_of step)
    (total_count steps) (total_count (step ∷ steps)) refl (sum_by-cons count_of step steps))

-- and so is what it counts
cycle_count-cons : (measure : Measure) (step : Constraint) (steps : List Constraint)
    → cycle_count measure (step ∷ steps) ≡ measured_count measure step + cycle_count measure steps
cycle_count-cons measure step steps = at measure.every (total_count (step ∷ steps))
    (count_of step) (total_count steps) (sum_by-cons count_of step steps)
  where
    at : (every : Bool) (whole one others : ℕ) → whole ≡ one + others → (if every then length (step
        ∷ steps) else whole) ≡ (if every then 1 else one) + (if every then length steps else others)
    at true whole one others is = omega arith
    at false whole one others is = is

module _ {measure : Measure} {ratio : Fraction} {trial : Gains}
    (trial_at : IsTrialAt measure ratio trial) where
  -- the gain of a constraint at the trial's ratio
  gain_is : (step : Constraint) → gain_of trial step ≡ (ratio.den *ℤ measured_weight measure step)
      -ℤ (ratio.num *ℤ pos (measured_count measure step))
  gain_is step = rw (trial_at.scale_is, trial_at.setup_is, trial_at.hold_is) (gain_over
      ratio.den ratio.num measure.scale measure.period step.weight step.setup measure.every)

  -- and that of a cycle
  pub total_gain-sums : (steps : List Constraint) → total_gain trial steps
      ≡ (ratio.den *ℤ cycle_weight measure steps) -ℤ (ratio.num *ℤ pos (cycle_count measure steps))
  total_gain-sums [] = nothing measure.every
    where
      nothing : (every : Bool) → pos 0 ≡ (ratio.den *ℤ ((measure.scale *ℤ pos 0)
          -ℤ (measure.period *ℤ pos 0))) -ℤ (ratio.num *ℤ pos (if every then 0 else 0))
      nothing true = rw (never measure.scale, never measure.period, never ratio.num)
          (sym (ap (λ z. z -ℤ pos 0) (never ratio.den)))
      nothing false = rw (never measure.scale, never measure.period, never ratio.num)
          (sym (ap (λ z. z -ℤ pos 0) (never ratio.den)))
  total_gain-sums (step ∷ steps) = ap (λ g. gain_of trial step +ℤ g) (total_gain-sums steps)
      ∙ ap (λ g. g +ℤ ((ratio.den *ℤ cycle_weight measure steps)
      -ℤ (ratio.num *ℤ pos (cycle_count measure steps)))) (gain_is step) ∙ gains_together ratio.den
      ratio.num (measured_weight measure step) (cycle_weight measure steps) (cycle_weight measure
      (step ∷ steps)) (measured_count measure step) (cycle_count measure steps) (cycle_count measure
      (step ∷ steps)) (cycle_weight-cons measure step steps) (cycle_count-cons measure step steps)

  -- values that satisfy the constraints by their gains do so at the ratio
  pub satisfies_ratio : (constraints : List Constraint) (value : ℕ → ℤ)
      → SatisfiesGains constraints trial 1 value → SatisfiesRatio measure constraints ratio value
  satisfies_ratio constraints value satisfies place default within =
      let it : Constraint = get_or constraints place default in
      parted (value it.tail) (ratio.den *ℤ measured_weight measure it) (ratio.num *ℤ
      pos (measured_count measure it)) (value it.head) (subst (λ g. (value it.tail +ℤ (pos 1 *ℤ g))
      ≤ℤ value it.head) (gain_is it) (satisfies place default within))
    where
      parted : (from asked due to : ℤ) → (from +ℤ (pos 1 *ℤ (asked -ℤ due))) ≤ℤ to
          → (from +ℤ asked) ≤ℤ (to +ℤ due)
      parted from asked due to met = omega (arith, ints)

-- sums of small weights in a measure
pub record AreSmallIn (measure : Measure) (steps : List Constraint) : Type 0 where
  pub above : neg_ℤ (most_weight measure.scale measure.period) ≤ℤ cycle_weight measure steps
  pub below : cycle_weight measure steps ≤ℤ most_weight measure.scale measure.period
  pub count : cycle_count measure steps ≤ 4097

-- over numbers
sizes_over : (scale period weight : ℤ) (count : ℕ) → pos 1 ≤ℤ scale → pos 0 ≤ℤ period
    → neg_ℤ (pos (4097 * 10 ^ 11)) ≤ℤ weight → weight ≤ℤ pos (4097 * 10 ^ 11) → count ≤ 4097
    → (neg_ℤ (most_weight scale period) ≤ℤ ((scale *ℤ weight) -ℤ (period *ℤ pos count)))
    × (((scale *ℤ weight) -ℤ (period *ℤ pos count)) ≤ℤ most_weight scale period)
sizes_over (pos scale) (pos period) weight count some from_zero above below few =
    let high : up weight ≤ down weight + 409700000000000 = omega (arith, ints) in
    let low : down weight ≤ up weight + 409700000000000 = omega (arith, ints) in
    let first = mul-le-mul_left scale high in
    let second = mul-le-mul_left scale low in
    let third = mul-le-mul_left period few in
    (omega (arith, ints), omega (arith, ints))
sizes_over (negsuc scale) period weight count some from_zero above below few =
    absurd (omega (arith, ints))
sizes_over (pos scale) (negsuc period) weight count some from_zero above below few =
    absurd (omega (arith, ints))

-- they are small where there are few
pub small_in : (measure : Measure) (steps : List Constraint) → AreSmallSums steps
    → length steps ≤ 4097 → AreSmallIn measure steps
small_in measure steps small few =
    let both = sizes_over measure.scale measure.period (total_weight steps) (total_count steps)
    measure.valid.some measure.valid.from_zero small.above small.below small.count in
    record { above = both.0; below = both.1; count = at measure.every }
  where
    at : (every : Bool) → (if every then length steps else total_count steps) ≤ 4097
    at true = few
    at false = small.count

-- the code's sums in a measure
module _ (measure : Measure) (steps : List Constraint) (weight count : ℤ)
    (weighs : weight ≡ total_weight steps) (counts : count ≡ pos (total_count steps)) where
  -- weigh what the steps weigh
  pub weighed : (whole : ℤ) → whole
      ≡ (measure.scale *ℤ weight) -ℤ (measure.period *ℤ count) → whole ≡ cycle_weight measure steps
  weighed whole is = is ∙ rw (weighs, counts) refl

  -- and count what they count
  pub counted : (many : ℕ) (whole : ℤ) → length steps ≡ many → whole
      ≡ (if measure.every then pos many else count) → whole ≡ pos (cycle_count measure steps)
  counted many whole long is = is ∙ at measure.every
    where
      at : (every : Bool) → (if every then pos many else count)
          ≡ pos (if every then length steps else total_count steps)
      at true = ap pos (sym long)
      at false = counts

-- what is within the most weight is small
pub most_small : (measure : Measure) (number : ℤ) → neg_ℤ (most_weight measure.scale measure.period)
    ≤ℤ number → number ≤ℤ most_weight measure.scale measure.period → IsBelow (2 ^ 63) number
most_small measure number above below = over measure.scale measure.period
    measure.valid.some measure.valid.fine measure.valid.from_zero measure.valid.short above below
  where
    over : (scale period : ℤ) → pos 1 ≤ℤ scale → scale ≤ℤ pos (10 ^ 4) → pos 0 ≤ℤ period
        → period <ℤ pos (10 ^ 15) → neg_ℤ (most_weight scale period) ≤ℤ number
        → number ≤ℤ most_weight scale period → IsBelow (2 ^ 63) number
    over scale period some fine from_zero short above below = record {
      above = omega (arith, ints);
      below = omega (arith, ints);
    }

-- a scale is small, and so is a period
pub scale_small : (measure : Measure) → IsBelow (2 ^ 63) measure.scale
scale_small measure = record {
  above = omega (arith, ints, measure.valid.some);
  below = omega (arith, ints, measure.valid.fine);
}

pub period_small : (measure : Measure) → IsBelow (2 ^ 63) measure.period
period_small measure = record {
  above = omega (arith, ints, measure.valid.from_zero);
  below = omega (arith, ints, measure.valid.short);
}

-- the numbers of a trial are small
trial_small_over : (den num scale period : ℤ) (every : Bool) → pos 1 ≤ℤ den → den ≤ℤ pos 4097
    → pos 1 ≤ℤ scale → scale ≤ℤ pos (10 ^ 4) → pos 0 ≤ℤ period → period <ℤ pos (10 ^ 15)
    → neg_ℤ (most_weight scale period) ≤ℤ num → num ≤ℤ most_weight scale period
    → AreSmallGains (den *ℤ scale) ((den *ℤ period) +ℤ num) (if every then num else pos 0)
trial_small_over (pos den) num (pos scale) (pos period) every proper low some fine from_zero short
    above below =
    let few : den ≤ 4097 = omega (arith, ints) in
    let once : 1 ≤ den = omega (arith, ints) in
    let small : scale ≤ 10000 = omega (arith, ints) in
    let one : 1 ≤ scale = omega (arith, ints) in
    let less : period ≤ 999999999999999 = omega (arith, ints) in
    let first = mul-le den scale 4097 10000 few small in
    let second = mul-le den period 4097 999999999999999 few less in
    let third = mul-le 1 1 den scale once one in
    record {
      some = omega (arith, ints);
      fine = omega (arith, ints);
      setup = record { above = omega (arith, ints); below = omega (arith, ints) };
      hold = at every;
    }
  where
    at : (every : Bool) → IsBelow (2 ^ 79) (if every then num else pos 0)
    at true = record {
      above = omega (arith, ints, fine, short, above);
      below = omega (arith, ints, fine, short, below);
    }
    at false = record { above = omega (arith, ints); below = omega (arith, ints) }
trial_small_over (negsuc den) num scale period every proper low some fine from_zero short above
    below =
    absurd (omega (arith, ints))
trial_small_over (pos den) num (negsuc scale) period every proper low some fine from_zero short
    above below =
    absurd (omega (arith, ints))
trial_small_over (pos den) num (pos scale) (negsuc period) every proper low some fine from_zero
    short above below =
    absurd (omega (arith, ints))

module _ (measure : Measure) (ratio : Fraction) (small : CanTry measure ratio) where
  pub trial_small : AreSmallGains (ratio.den *ℤ measure.scale)
      ((ratio.den *ℤ measure.period) +ℤ ratio.num) (if measure.every then ratio.num else pos 0)
  trial_small =
      let valid = measure.valid in
      trial_small_over ratio.den ratio.num measure.scale measure.period measure.every small.proper
      small.low valid.some valid.fine valid.from_zero valid.short small.above small.below

  -- a denominator is small
  den_small : IsBelow (2 ^ 63) ratio.den
  den_small = record {
    above = omega (arith, ints, small.proper);
    below = omega (arith, ints, small.low);
  }

  -- the code's scale
  pub scale_read : (den product : ℤ) → den ≡ ratio.den
      → product ≡ kept den *ℤ kept measure.scale → kept product ≡ ratio.den *ℤ measure.scale
  scale_read den product same is =
      let whole : product ≡ ratio.den *ℤ measure.scale = is ∙ ap (λ z. kept z *ℤ kept measure.scale)
      same ∙ small_product_read ratio.den measure.scale den_small (scale_small measure) in
      ap kept whole ∙ at (ratio.den *ℤ measure.scale) trial_small.some trial_small.fine
    where
      at : (z : ℤ) → pos 1 ≤ℤ z → z ≤ℤ pos (4097 * 10 ^ 8) → kept z ≡ z
      at z some fine = omega (arith, ints)

  -- what the code takes away for a setup constraint
  pub setup_read : (den num product : ℤ) → den ≡ ratio.den → num ≡ ratio.num
      → product ≡ kept den *ℤ kept measure.period → IsBelow (2 ^ 126) product
      → kept (kept product +ℤ kept num) ≡ (ratio.den *ℤ measure.period) +ℤ ratio.num
  setup_read den num product same same_num is product_small =
      let whole : product ≡ ratio.den *ℤ measure.period =
      is ∙ ap (λ z. kept z *ℤ kept measure.period) same
      ∙ small_product_read ratio.den measure.period den_small (period_small measure) in
      at product num product_small (rw same_num (most_small measure ratio.num small.above
      small.below)) ∙ rw (whole, same_num) refl
    where
      at : (a b : ℤ) → IsBelow (2 ^ 126) a → IsBelow (2 ^ 63) b → kept (kept a +ℤ kept b) ≡ a +ℤ b
      at a b first second =
          omega (arith, ints, first.above, first.below, second.above, second.below)

  -- and for a hold constraint
  pub hold_read : (hold : ℤ) → hold ≡ (if measure.every then ratio.num else pos 0)
      → kept hold ≡ (if measure.every then ratio.num else pos 0)
  hold_read hold is = ap kept is ∙ at (if measure.every then ratio.num else pos 0) trial_small.hold
    where
      at : (z : ℤ) → IsBelow (2 ^ 79) z → kept z ≡ z
      at z low = omega (arith, ints, low.above, low.below)
