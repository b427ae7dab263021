-- What a trial and a raise leave shown.
use Rattle.critical_cycle.proofs.Vocabulary.{drop, ℕ, ◌≡◌, ◌<◌, ◌≤◌, ◌+◌, ◌*◌, ℤ, pos, neg_ℤ, ◌*ℤ◌, ◌≤ℤ◌, ◌<ℤ◌, List, Option, Some, None, refl, sym, subst, arith, MatchOption, nat_abs, mul-le-mul_left, ints, by_lt_z, Fraction, Constraint, IsCycle, Measure, Gains, AreWithin, constraints_at, CanTry, IsTrialAt, SatisfiesRatio, most_weight, IsRaise, IsGreatestShown, IsSettled, IsShown, raises_left, steps_below, SatisfiesGains, total_gain, up, down}
use Rattle.critical_cycle.specs.Searches.{IsAtShown}
use Rattle.critical_cycle.specs.declared.search.Search.{Search}
use Rattle.critical_cycle.specs.declared.shown.Shown.{Shown}
use Rattle.critical_cycle.specs.declared.shown.Shown.TheVariants.{First, Value, Never}
use Rattle.critical_cycle.proofs.MeasureLemmas.{satisfies_ratio, total_gain-sums}
use Rattle.critical_cycle.proofs.RaiseLemmas.{size_is}
use Rattle.critical_cycle.proofs.Steps.{steps_below-less}

-- a trial that settles, settles the greatest ratio shown
pub settled_at : (measure : Measure) (constraints : List Constraint) (first : Fraction)
    (shown : Shown) (ratio : Fraction) (trial : Gains) (value : ℕ → ℤ)
    → IsGreatestShown first shown ratio → IsTrialAt measure ratio trial
    → SatisfiesGains constraints trial 1 value → IsSettled measure constraints first shown
settled_at measure constraints first First ratio trial value greatest at satisfies = (
  value,
  subst (λ r. SatisfiesRatio measure constraints r value) greatest
      (satisfies_ratio at constraints value satisfies),
)
settled_at measure constraints first (Value shown) ratio trial value greatest at satisfies = (
  value,
  subst (λ r. SatisfiesRatio measure constraints r value) greatest
      (satisfies_ratio at constraints value satisfies),
)
settled_at measure constraints first Never ratio trial value greatest at satisfies = absurd greatest

-- both outcomes of a trial
pub outcome : (P Q : Type 0) (R S : ℕ → Type 0) (result : Option ℕ) → (P → Q)
    → ((register : ℕ) → R register → S register) → MatchOption result P R → MatchOption result Q S
outcome P Q R S None left right here = left here
outcome P Q R S (Some register) left right here = right register here

-- the first ratio is no greater than the greatest shown
first_below : (measure : Measure) (constraints : List Constraint) (first : Fraction)
    (cycle : List ℕ) (shown : Shown) (ratio : Fraction) → IsShown measure constraints first cycle
    shown → IsGreatestShown first shown ratio → (first.num *ℤ ratio.den) ≤ℤ (ratio.num *ℤ first.den)
first_below measure constraints first cycle First ratio is greatest =
    rw greatest (no_less (first.num *ℤ first.den))
  where
    no_less : (a : ℤ) → a ≤ℤ a
    no_less a = omega (arith, ints)
first_below measure constraints first cycle (Value value) ratio is greatest =
    rw greatest (no_more is.above)
  where
    no_more : {a b : ℤ} → a <ℤ b → a ≤ℤ b
    no_more less = omega (arith, ints)
first_below measure constraints first cycle Never ratio is greatest = absurd greatest

-- and so less than a greater one
above_first : (first num value : ℤ) (whole den size : ℕ) → 1 ≤ whole
    → (first *ℤ pos den) ≤ℤ (num *ℤ pos whole) → (num *ℤ pos size) <ℤ (value *ℤ pos den)
    → (first *ℤ pos size) <ℤ (value *ℤ pos whole)
above_first first num value whole den
    size some low above = by_lt_z (first *ℤ pos size) (value *ℤ pos whole) (λ more. more) (λ less.
    let under : up value * whole + down first * size ≤ down value * whole + up first * size =
    omega (arith, ints) in
    let least : up first * den + down num * whole ≤ down first * den + up num * whole =
    omega (arith, ints) in
    let over : up num * size + down value * den + 1 ≤ down num * size + up value * den =
    omega (arith, ints) in
    let first_times = mul-le-mul_left den under in
    let second_times = mul-le-mul_left size least in
    let third_times = mul-le-mul_left whole over in
    absurd (omega (arith, ints)))

-- the raises that are left from the greatest ratio shown on
left_at : (measure : Measure) (first : Fraction) (shown : Shown) (ratio : Fraction)
    → IsGreatestShown first shown ratio → raises_left measure first shown
    ≡ 1 + steps_below (most_weight measure.scale measure.period) ratio.num ratio.den
left_at measure first First ratio greatest = rw greatest refl
left_at measure first (Value value) ratio greatest = rw greatest refl
left_at measure first Never ratio greatest = absurd greatest

-- a ratio isn't enough for a cycle with a total above 0 at its trial
pub not_kept : (measure : Measure) (ratio : Fraction) (trial : Gains) (steps : List Constraint)
    (says : Shown) → IsTrialAt measure ratio trial → pos 0 <ℤ total_gain trial steps
    → IsRaise measure ratio steps says → says ≡ First → ⊥
not_kept measure ratio trial steps First at gains keep is =
    let total = total_gain-sums at steps in
    omega (arith, ints)
not_kept measure ratio trial steps (Value value) at gains to is = cc
not_kept measure ratio trial steps Never at gains never is = cc

-- a ratio that is shown can be tried
pub can_try : (measure : Measure) (constraints : List Constraint) (first : Fraction)
    (cycle : List ℕ) (shown : Shown) (ratio : Fraction) → CanTry measure first → IsShown
    measure constraints first cycle shown → IsGreatestShown first shown ratio → CanTry measure ratio
can_try measure constraints first cycle First ratio small is greatest =
    subst (CanTry measure) (sym greatest) small
can_try measure constraints first cycle (Value value) ratio small is greatest =
    subst (CanTry measure) (sym greatest) is.valid
can_try measure constraints first cycle Never ratio small is greatest = absurd greatest

-- a cycle that the ratio isn't enough for shows more, and leaves fewer raises
pub raise_shows : (measure : Measure) (constraints : List Constraint)
    (first : Fraction) (before cycle : List ℕ) (old new : Shown) (ratio : Fraction)
    → CanTry measure first → IsShown measure constraints first before old → IsGreatestShown
    first old ratio → AreWithin constraints cycle → IsCycle (constraints_at constraints cycle)
    → (new ≡ First → ⊥) → IsRaise measure ratio (constraints_at constraints cycle) new
    → IsShown measure constraints first cycle new
    × (raises_left measure first new < raises_left measure first old)
raise_shows measure constraints first before cycle old First ratio small is greatest within is_cycle
    goes_on keep = absurd (goes_on refl)
raise_shows measure constraints first before cycle old (Value value) ratio small is greatest within
    is_cycle goes_on to =
    let low = first_below measure constraints first before old ratio is greatest in
    let valid = can_try measure constraints first before old ratio small is greatest in
    let size = size_is value.den to.valid.proper in
    let ratio_size = size_is ratio.den valid.proper in
    let first_size = size_is first.den small.proper in
    let over = above_first first.num ratio.num value.num (nat_abs first.den) (nat_abs ratio.den)
    (nat_abs value.den) (omega (arith, ints, first_size, small.proper))
    (rw (ratio_size, first_size) low) (rw (size, ratio_size) to.above) in
    let less = steps_below-less (most_weight measure.scale measure.period) ratio.num ratio.den
    value.num value.den (some_weight _ _ small.above small.below) valid.proper valid.low
    to.valid.proper to.valid.low valid.below to.valid.below to.above in (
      record {
        within = within;
        shows = record { is_cycle = is_cycle; counts = to.counts; value = to.value_is };
        above = rw (size, first_size) at over;
        valid = to.valid;
      },
      omega (arith, left_at measure first old ratio greatest, less),
    )
  where
    -- what a number lies within isn't below 0
    some_weight : (num most : ℤ) → neg_ℤ most ≤ℤ num → num ≤ℤ most → pos 0 ≤ℤ most
    some_weight num most above below = omega (arith, ints)
raise_shows measure constraints first before cycle old Never ratio small is greatest within is_cycle
    goes_on never = (
      record {
        within = within;
        forbids = record { is_cycle = is_cycle; counts = never.counts; weighs = never.weighs };
      },
      omega (arith, left_at measure first old ratio greatest),
    )

-- so does a ring that is gone round, whose places come last
pub ring_shows : (search : Search) (start : ℕ) (places cycle : List ℕ) (new : Shown)
    → IsAtShown search → cycle ≡ drop start places
    → AreWithin search.constraints.now (drop start places)
    → IsCycle (constraints_at search.constraints.now (drop start places))
    → pos 0 <ℤ total_gain search.trial (constraints_at search.constraints.now (drop start places))
    → IsRaise search.measure search.ratio (constraints_at search.constraints.now cycle) new
    → IsShown search.measure search.constraints.now search.first (drop start places) new
    × (raises_left search.measure search.first new
    < raises_left search.measure search.first search.shown)
ring_shows search start places cycle new at is within is_cycle gains raise =
    let judged = subst (λ ps. IsRaise search.measure search.ratio
    (constraints_at search.constraints.now ps) new) is raise in
    raise_shows search.measure search.constraints.now search.first _ (drop start places)
    search.shown
    new search.ratio search.can search.shows at.greatest within is_cycle
    (not_kept search.measure search.ratio search.trial _ new at.at gains judged) judged
