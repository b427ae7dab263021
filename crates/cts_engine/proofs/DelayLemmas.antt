-- How large the weights of a circuit's constraints are, and what its registers have to spare.
use Rattle.cts_engine.proofs.Vocabulary.{◌≡◌, ◌≤◌, ◌^◌, ℕ, ℤ, pos, ◌+ℤ◌, ◌*ℤ◌, Option, Some, None, Bool, true, false, List, get_or, sym, ap, subst, ◌∙◌, arith, All, MatchBool, nat_abs, ints, slice_get-get_or, Fraction, Circuit, Constraint, Schedule, Tech, PairDelay, IsConstraintOf, IsHoldConstraint, IsSetupConstraint, least_delay, greatest_delay, IsPairDelay, IsSmallPair, IsPath, IsBelow, AreSmallSlacks, IsSmallSlack, IsSmallPeriod, arrival_of, AreSlacks, IsLeastSpare, IsSlackOf, hold_spare, setup_spare, IsWithin, scale_le, size_same, HasSmallPairs}
use Rattle.cts_engine.specs.Types.{Slack}
use Rattle.path_delays.specs.JoinedPairs.{ArePairs}

-- listed pairs have small delays
pub small_pairs : (circuit : Circuit) (tech : Tech) (pairs : List PairDelay)
    → ArePairs circuit tech pairs → HasSmallPairs circuit tech
small_pairs circuit tech pairs are from to path joins =
    let (place, pair, within, here, (from_is, to_is)) = are.lists.all from to path joins in (
      pair,
      record {
        from_is = from_is;
        to_is = to_is;
        delays = subst (IsPairDelay circuit tech) here (are.lists.delays place pair within);
        small = subst IsSmallPair here (are.small place pair within);
      },
    )

-- ends of a path by other names
renamed : (circuit : Circuit) (from from' to to' : ℕ) (path : List ℕ) → from ≡ from' → to ≡ to'
    → IsPath circuit from to path → IsPath circuit from' to' path
renamed circuit from from' to to' path prefix back = search arith

module _ {circuit : Circuit} {tech : Tech} (small : HasSmallPairs circuit tech) where
  -- what a path gives has a small greatest delay where it is the greatest of all
  setup_small : (from to : ℕ) (weight : ℤ) → IsSetupConstraint circuit tech from to weight
      → IsBelow 70000000000 weight
  setup_small from to weight is =
      let (pair, between) = small from to is.path is.joins in
      let (shown, joins, shows) = between.delays.greatest_shown in
      let high = between.delays.greatest is.path
      (renamed circuit from pair.from to pair.to is.path (sym between.from_is)
      (sym between.to_is) is.joins) in
      let low = is.greatest shown
      (renamed circuit pair.from from pair.to to shown between.from_is between.to_is joins) in
      let range = between.small.greatest in
      let setup = tech.valid.setup_within in
      record {
        above = omega (arith, ints, high, low, shows, range, setup, is.weight_is);
        below = omega (arith, ints, high, low, shows, range, setup, is.weight_is);
      }

  -- and a small least one where it is the least
  hold_small : (from to : ℕ) (weight : ℤ) → IsHoldConstraint circuit tech from to weight
      → IsBelow 70000000000 weight
  hold_small from to weight is =
      let (pair, between) = small from to is.path is.joins in
      let (shown, joins, shows) = between.delays.least_shown in
      let low = between.delays.least is.path
      (renamed circuit from pair.from to pair.to is.path (sym between.from_is)
      (sym between.to_is) is.joins) in
      let high = is.least shown
      (renamed circuit pair.from from pair.to to shown between.from_is between.to_is joins) in
      let range = between.small.least in
      let hold = tech.valid.hold_within in
      record {
        above = omega (arith, ints, high, low, shows, range, hold, is.weight_is);
        below = omega (arith, ints, high, low, shows, range, hold, is.weight_is);
      }

  -- the weight of a constraint of the circuit
  pub weight_small : (constraint : Constraint) → IsConstraintOf circuit tech constraint
      → IsBelow 70000000000 constraint.weight
  weight_small constraint is = at constraint.setup is
    where
      at : (setup : Bool) → MatchBool setup
          (IsSetupConstraint circuit tech constraint.tail constraint.head constraint.weight)
          (IsHoldConstraint circuit tech constraint.head constraint.tail constraint.weight)
          → IsBelow 70000000000 constraint.weight
      at true is = setup_small constraint.tail constraint.head constraint.weight is
      at false is = hold_small constraint.head constraint.tail constraint.weight is

  -- a number whose parts are arrivals, a period and what is spent of it
  module _ {period : Fraction} (at : List ℤ) (range : IsSmallPeriod period)
      (arrivals : (register : ℕ) → IsWithin 0 1200000000000000000 (arrival_of at register)) where
    -- the denominator, as the definitions take it
    scale_low : nat_abs period.den ≤ 4097
    scale_low = omega (arith, ints, range.low, period.lowest.some_den)

    -- what a register spares before the next edge
    setup_below : (to : ℕ) (least : ℤ)
        → IsLeastSpare circuit
        (setup_spare circuit tech (nat_abs period.den) period.num (arrival_of at)) to least
        → IsBelow (10 ^ 20) least
    setup_below to least is =
        let (pair, between) = small is.from to is.path is.joins in
        let (other, joins, shows) = between.delays.greatest_shown in
        let path_is = renamed circuit is.from pair.from to pair.to is.path (sym between.from_is)
        (sym between.to_is) is.joins in
        let other_is = renamed circuit pair.from is.from pair.to to other between.from_is
        between.to_is joins in
        let high = between.delays.greatest is.path path_is in
        let more = is.each is.from other other_is in
        let spare = pair.greatest in
        let setup = tech.valid.setup_within in
        let size = between.small.greatest in
        let most = scale_le (nat_abs period.den) (greatest_delay circuit tech is.path +ℤ tech.setup)
        (pos 70000000000) (omega (arith, ints, high, setup, size)) in
        let none = scale_le (nat_abs period.den) (pos 0)
        (greatest_delay circuit tech other +ℤ tech.setup)
        (omega (arith, ints, shows, setup, size)) in
        let launch = arrivals is.from in
        let capture = arrivals to in
        record {
          above = omega (arith, ints, is.shown, most, scale_low, launch, capture, range.from_zero);
          below = omega (arith, ints, more, none, launch, capture, range.small);
        }

    -- what it spares after its edge
    hold_below : (to : ℕ) (least : ℤ)
        → IsLeastSpare circuit (hold_spare circuit tech (nat_abs period.den) (arrival_of at)) to
        least → IsBelow (10 ^ 20) least
    hold_below to least is =
        let (pair, between) = small is.from to is.path is.joins in
        let (other, joins, shows) = between.delays.least_shown in
        let path_is = renamed circuit is.from pair.from to pair.to is.path (sym between.from_is)
        (sym between.to_is) is.joins in
        let other_is = renamed circuit pair.from is.from pair.to to other between.from_is
        between.to_is joins in
        let low = between.delays.least is.path path_is in
        let more = is.each is.from other other_is in
        let hold = tech.valid.hold_within in
        let size = between.small.least in
        let none = scale_le (nat_abs period.den) (pos 0) (least_delay circuit tech is.path)
        (omega (arith, ints, low, size)) in
        let most = scale_le (nat_abs period.den) (least_delay circuit tech other)
        (pos 70000000000) (omega (arith, ints, shows, size)) in
        let wait = scale_le (nat_abs period.den) tech.hold (pos 70000000000)
        (omega (arith, ints, hold)) in
        let start = scale_le (nat_abs period.den) (pos 0) tech.hold (omega (arith, ints, hold)) in
        let launch = arrivals is.from in
        let capture = arrivals to in
        record {
          above = omega (arith, ints, is.shown, none, wait, scale_low, launch, capture);
          below = omega (arith, ints, more, most, start, scale_low, launch, capture);
        }

    -- a slack over the denominator
    slack_small : (spare : (from to : ℕ) (path : List ℕ) → ℤ) (to : ℕ)
        → ((least : ℤ) → IsLeastSpare circuit spare to least → IsBelow (10 ^ 20) least)
        → (slack : Option Fraction) → IsSlackOf circuit (nat_abs period.den) spare to slack
        → IsSmallSlack period.den slack
    slack_small spare to below None is = tt
    slack_small spare to below (Some slack) (least, shown, value) = (
      least,
      ap (λ z. slack.num *ℤ z) (sym (size_same period.den
          (omega (arith, ints, period.lowest.some_den)))) ∙ value,
      below least shown,
    )

    -- the slacks of all registers
    pub slacks_small : (schedule : Schedule) (slacks : List Slack) → schedule.at ≡ at
        → AreSlacks circuit tech period schedule slacks → All (AreSmallSlacks period.den) slacks
    slacks_small schedule slacks same are register default here =
        let slack = get_or slacks register default in
        let is = are.each register slack (slice_get-get_or slacks register default here) in
        record {
          setup = slack_small (setup_spare circuit tech (nat_abs period.den) period.num
              (arrival_of at)) register (setup_below register) slack.setup
              (subst (λ list. IsSlackOf circuit (nat_abs period.den) (setup_spare circuit tech
              (nat_abs period.den) period.num (arrival_of list)) register slack.setup) same
              is.setup);
          hold = slack_small (hold_spare circuit tech (nat_abs period.den) (arrival_of at)) register
              (hold_below register) slack.hold
              (subst (λ list. IsSlackOf circuit (nat_abs period.den) (hold_spare circuit tech
              (nat_abs period.den) (arrival_of list)) register slack.hold) same is.hold);
        }
