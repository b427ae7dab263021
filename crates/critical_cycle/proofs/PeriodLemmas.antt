-- What the greatest ratio says of the period, and what the answers exclude.
use Rattle.critical_cycle.proofs.Vocabulary.{ℕ, ◌≡◌, ◌^◌, ◌*◌, ℤ, pos, negsuc, ◌+ℤ◌, ◌-ℤ◌, ◌*ℤ◌, ◌≤ℤ◌, ◌<ℤ◌, false, List, get_or, refl, subst, ap, arith, to_z, of_z, All, Contains, nat_abs, ◌↔◌, ints, All-contains_itself, Fraction, Constraint, Satisfies, count_of, IsLeastPeriodOf, ShowsPeriod, total_count, total_weight, Measure, AreWithin, constraints_at, CanTry, SatisfiesRatio, ShowsRatio, cycle_count, cycle_weight, HasForbidding, HasSmallValue, IsFloor, IsForbidden, IsNeverPeriod, IsPeriodOf, IsShownPeriod, period_of, IsForbiddenBy, IsRatioOf, IsShownRatio}
use Rattle.std.specs.Int.{w128}
use Rattle.cts_model.specs.Vocabulary.{IsSmallPeriod}
use Rattle.cts_model.proofs.CycleLemmas.{shown_period_is_least, forbidden_at_all}
use Rattle.critical_cycle.specs.Floors.{IsSmallFloor}
use Rattle.critical_cycle.specs.declared.period.Period.{Period}
use Rattle.critical_cycle.specs.declared.period.Period.TheVariants.{Cycle, Floor, Never}
use Rattle.critical_cycle.specs.declared.ratio.Ratio.{Ratio}
use Rattle.critical_cycle.specs.declared.ratio.Ratio.TheVariants as ratio
use Rattle.critical_cycle.proofs.PlaceLemmas.{All-constraints_at}
use Rattle.critical_cycle.proofs.RaiseLemmas.{size_is}

-- the constraints at places are constraints of the list
among : (constraints : List Constraint) (cycle : List ℕ) → AreWithin constraints cycle
    → All (Contains constraints) (constraints_at constraints cycle)
among constraints cycle within = All-constraints_at
    (Contains constraints) constraints cycle (All-contains_itself constraints) within

-- in ticks, with setup constraints alone counted
pub record IsPlain (measure : Measure) : Type 0 where
  pub scale_is : measure.scale ≡ pos 1
  pub period_is : measure.period ≡ pos 0
  pub every_is : measure.every ≡ false

-- the floor as a fraction
pub record IsWhole (floor : ℤ) (first : Fraction) : Type 0 where
  pub num_is : first.num ≡ floor
  pub den_is : first.den ≡ pos 1

-- a whole number over 1 in lowest terms is the number
whole_is : (floor : ℤ) (first : Fraction) → first.num *ℤ pos 1 ≡ floor *ℤ first.den
    → first.den ≤ℤ pos 1 → IsWhole floor first
whole_is floor first value low =
    let one : first.den ≡ pos 1 = at first.den first.lowest.some_den low in
    record { num_is = plain first.num floor (rw one at value); den_is = one }
  where
    at : (den : ℤ) → pos 1 ≤ℤ den → den ≤ℤ pos 1 → den ≡ pos 1
    at den above below = omega (arith, ints)

    plain : (a b : ℤ) → a *ℤ pos 1 ≡ b *ℤ pos 1 → a ≡ b
    plain a b same = omega (arith, ints)

-- the floor over 1, as the code makes it
pub floor_is : (floor : ℤ) (first : Fraction) → IsSmallFloor floor → first.num *ℤ pos 1
    ≡ to_z w128 (of_z w128 floor) *ℤ first.den → first.den ≤ℤ pos 1 → IsWhole floor first
floor_is floor first small value low =
    let plain : to_z w128 (of_z w128 floor) ≡ floor =
    omega (arith, ints, small.positive, small.small) in
    whole_is floor first (rw plain at value) low

-- a floor can be tried
pub floor_can_try : (measure : Measure) (floor : ℤ) (first : Fraction) → IsPlain measure
    → IsSmallFloor floor → IsWhole floor first → CanTry measure first
floor_can_try measure floor first plain small whole =
    rw (plain.scale_is, plain.period_is, whole.num_is, whole.den_is) (record {
      above = omega (arith, ints, small.positive);
      below = omega (arith, ints, small.small);
      proper = omega (arith, ints);
      low = omega (arith, ints);
    })

module _ {measure : Measure} (plain : IsPlain measure) where
  -- a cycle weighs its weights
  weight_plain : (steps : List Constraint) → cycle_weight measure steps ≡ total_weight steps
  weight_plain steps = rw (plain.scale_is, plain.period_is)
      (alone (total_weight steps) (total_count steps))
    where
      alone : (a : ℤ) (k : ℕ) → (pos 1 *ℤ a) -ℤ (pos 0 *ℤ pos k) ≡ a
      alone a k = omega (arith, ints)

  -- and counts its setup constraints
  count_plain : (steps : List Constraint) → cycle_count measure steps ≡ total_count steps
  count_plain steps = rw plain.every_is refl

  -- arrivals that satisfy the constraints at the ratio do so at the period
  satisfies_plain : (constraints : List Constraint) (value : Fraction) (arrival : ℕ → ℤ)
      → SatisfiesRatio measure constraints value arrival
      → Satisfies constraints (nat_abs value.den) value.num arrival
  satisfies_plain constraints value arrival satisfied place default within =
      let it : Constraint = get_or constraints place default in
      rw (size_is value.den value.lowest.some_den)
      (alone value.den value.num it.weight (arrival it.tail) (arrival it.head) (count_of it)
      (rw (plain.scale_is, plain.period_is, plain.every_is) at (satisfied place default within)))
    where
      alone : (den num weight from to : ℤ) (k : ℕ)
          → (from +ℤ (den *ℤ ((pos 1 *ℤ weight) -ℤ (pos 0 *ℤ pos k)))) ≤ℤ (to +ℤ (num *ℤ pos k))
          → (from +ℤ (den *ℤ weight)) ≤ℤ (to +ℤ (num *ℤ pos k))
      alone den num weight from to k met =
          subst (λ w. (from +ℤ (den *ℤ w)) ≤ℤ (to +ℤ (num *ℤ pos k))) (same weight k) met
        where
          same : (a : ℤ) (k : ℕ) → (pos 1 *ℤ a) -ℤ (pos 0 *ℤ pos k) ≡ a
          same a k = omega (arith, ints)

  -- a cycle that shows the ratio shows the period
  shows_plain : (steps : List Constraint) (value : Fraction) → ShowsRatio measure steps value
      → ShowsPeriod steps value.num (nat_abs value.den)
  shows_plain steps value shows = record {
    is_cycle = shows.is_cycle;
    counts = rw (count_plain steps) at shows.counts;
    value = rw (size_is value.den value.lowest.some_den)
        (rw (weight_plain steps, count_plain steps) at shows.value);
  }

  -- what is shown above the floor is the least period
  pub period_shown : (constraints : List Constraint) (floor : ℤ) (first value : Fraction)
      (cycle : List ℕ) → IsWhole floor first → IsShownRatio measure constraints first value cycle
      → IsShownPeriod constraints floor value cycle
  period_shown constraints floor first value cycle whole is =
      let size = size_is value.den value.lowest.some_den in
      let over : (floor *ℤ value.den) <ℤ value.num =
      single (floor *ℤ value.den) value.num (rw (whole.num_is, whole.den_is) at is.above) in
      let above : (floor *ℤ pos (nat_abs value.den)) <ℤ value.num = rw size over in
      let shows = shows_plain (constraints_at constraints cycle) value is.shows in
      record {
        least = record {
          proper = omega (arith, ints, size, value.lowest.some_den);
          admitted = (
            at_least floor value.num (nat_abs value.den) above,
            (is.satisfied.0, satisfies_plain constraints value is.satisfied.0 is.satisfied.1),
          );
          least = λ scale period some below admits.
              shown_period_is_least constraints (constraints_at constraints cycle) value.num
              (nat_abs value.den) scale period admits.1.0 (among constraints cycle is.within)
              shows below admits.1.1;
        };
        above = over;
        within = is.within;
        shows = shows;
        lowest = is.lowest;
      }
    where
      single : (a b : ℤ) → a <ℤ (b *ℤ pos 1) → a <ℤ b
      single a b less = omega (arith, ints)

      at_least : (floor num : ℤ) (den : ℕ) → (floor *ℤ pos den) <ℤ num → (pos den *ℤ floor) ≤ℤ num
      at_least floor num den less = omega (arith, ints)

  -- it is small
  pub period_small : (constraints : List Constraint) (floor : ℤ) (first value : Fraction)
      (cycle : List ℕ) → IsSmallFloor floor → IsWhole floor first
      → IsShownRatio measure constraints first value cycle → IsSmallPeriod value
  period_small constraints floor first value cycle small whole is =
      let below = rw (plain.scale_is, plain.period_is) at is.small.below in
      record {
        from_zero = from_zero floor value.num value.den small.positive value.lowest.some_den
            (rw (whole.num_is, whole.den_is) at is.above);
        small = low value.num below;
        low = is.small.low;
      }
    where
      from_zero : (floor num den : ℤ) → pos 0 ≤ℤ floor → pos 1 ≤ℤ den
          → (floor *ℤ den) <ℤ (num *ℤ pos 1) → pos 0 ≤ℤ num
      from_zero floor num den positive some above =
          at_zero (floor *ℤ den) num (no_less floor den positive some) above
        where
          at_zero : (a b : ℤ) → pos 0 ≤ℤ a → a <ℤ (b *ℤ pos 1) → pos 0 ≤ℤ b
          at_zero a b above less = omega (arith, ints)

          no_less : (a b : ℤ) → pos 0 ≤ℤ a → pos 1 ≤ℤ b → pos 0 ≤ℤ (a *ℤ b)
          no_less (pos a) (pos b) first second = omega (arith, ints)
          no_less (negsuc a) b first second = absurd (omega (arith, ints))
          no_less (pos a) (negsuc b) first second = absurd (omega (arith, ints))

      low : (num : ℤ) → num ≤ℤ ((pos 1 *ℤ pos (4097 * 10 ^ 11)) +ℤ (pos 0 *ℤ pos 4097))
          → num <ℤ pos (10 ^ 18)
      low num below = omega (arith, ints)

  -- the floor is the least period where it is enough
  pub floor_enough : (constraints : List Constraint) (floor : ℤ) (first : Fraction)
      → IsWhole floor first → (arrival : ℕ → ℤ) × SatisfiesRatio measure constraints first arrival
      → IsLeastPeriodOf constraints floor floor 1
  floor_enough constraints floor first whole satisfied =
      let at = satisfies_plain constraints first satisfied.0 satisfied.1 in
      record {
        proper = omega arith;
        admitted = (
          single floor,
          (
            satisfied.0,
            subst (λ d. Satisfies constraints d floor satisfied.0) (ap nat_abs whole.den_is) (subst
                (λ n. Satisfies constraints (nat_abs first.den) n satisfied.0) whole.num_is at),
          ),
        );
        least = λ scale period some below admits.
            absurd (under floor period scale below admits.0);
      }
    where
      single : (a : ℤ) → (pos 1 *ℤ a) ≤ℤ a
      single a = omega (arith, ints)

      under : (floor period : ℤ) (scale : ℕ) → (period *ℤ pos 1) <ℤ (floor *ℤ pos scale)
          → (pos scale *ℤ floor) ≤ℤ period → ⊥
      under floor period scale below at_least = omega (arith, ints)

  -- a cycle that forbids every ratio forbids every period
  pub period_forbidden : (constraints : List Constraint) (cycle : List ℕ)
      → IsForbiddenBy measure constraints cycle → IsForbidden constraints cycle
  period_forbidden constraints cycle is = record {
    within = is.within;
    forbids = record {
      is_cycle = is.forbids.is_cycle;
      counts = rw (count_plain (constraints_at constraints cycle)) at is.forbids.counts;
      asks = rw (weight_plain (constraints_at constraints cycle)) at is.forbids.weighs;
    };
    lowest = is.lowest;
  }

module _ {measure : Measure} (plain : IsPlain measure) (constraints : List Constraint) {floor : ℤ}
    {first : Fraction} (whole : IsWhole floor first) where
  -- the greatest ratio at or above the floor is the least period
  pub period_right : (ratio : Ratio) → IsRatioOf measure constraints first ratio
      → IsPeriodOf constraints floor (period_of ratio)
  period_right (ratio.Cycle value cycle) is =
      period_shown plain constraints floor first value cycle whole is
  period_right ratio.First is = floor_enough plain constraints floor first whole is
  period_right (ratio.Never cycle) is = period_forbidden plain constraints cycle is

  -- and small where a cycle shows it
  pub small_right : IsSmallFloor floor → (ratio : Ratio)
      → IsRatioOf measure constraints first ratio → HasSmallValue (period_of ratio)
  small_right small (ratio.Cycle value cycle) is =
      period_small plain constraints floor first value cycle small whole is
  small_right small ratio.First is = tt
  small_right small (ratio.Never cycle) is = tt

-- the answer is that no period is long enough exactly where a cycle forbids all
pub never_exactly : (constraints : List Constraint) (floor : ℤ) (period : Period)
    → IsPeriodOf constraints floor period → IsNeverPeriod period ↔ HasForbidding constraints
never_exactly constraints floor (Cycle value cycle) is =
    let admitted = is.least.admitted.1 in (
      λ never. absurd never,
      λ has. forbidden_at_all constraints has.0 (nat_abs value.den) value.num admitted.0 has.1
          has.2 is.least.proper admitted.1,
    )
never_exactly constraints floor Floor is =
    let admitted = is.admitted.1 in (
      λ never. absurd never,
      λ has. forbidden_at_all constraints has.0 1 floor admitted.0 has.1 has.2 is.proper admitted.1,
    )
never_exactly constraints floor (Never cycle) is = (
  λ never. (constraints_at constraints cycle, among constraints cycle is.within, is.forbids),
  λ has. tt,
)

-- and the floor exactly where it is the least period
pub floor_exactly : (constraints : List Constraint) (floor : ℤ) (period : Period) → IsPeriodOf
    constraints floor period → IsFloor period ↔ IsLeastPeriodOf constraints floor floor 1
floor_exactly constraints floor (Cycle value cycle) is =
    let above : (floor *ℤ pos (nat_abs value.den)) <ℤ value.num =
    rw (size_is value.den value.lowest.some_den) is.above in (
      λ never. absurd never,
      λ least. is.least.least 1 floor (omega arith) (omega (arith, ints)) least.admitted,
    )
floor_exactly constraints floor Floor is = (λ floor. is, λ least. tt)
floor_exactly constraints floor (Never cycle) is = (
  λ never. absurd never,
  λ least. forbidden_at_all constraints (constraints_at constraints cycle) 1 floor
      least.admitted.1.0
      (among constraints cycle is.within) is.forbids least.proper least.admitted.1.1,
)
