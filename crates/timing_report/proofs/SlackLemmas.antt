-- From when what is launched comes to what registers have to spare.
use Rattle.timing_report.proofs.Vocabulary.{◌≡◌, ◌+◌, ◌*◌, ◌^◌, ◌<◌, ℕ, ℤ, pos, negsuc, ◌+ℤ◌, ◌-ℤ◌, ◌*ℤ◌, ◌≤ℤ◌, List, [], ◌∷◌, ◌++◌, length, get_or, Option, Some, None, IsSomeAnd, inl, inr, refl, sym, ◌∙◌, ap, subst, arith, nat_abs, ints, slice_get_within, slice_get-get_or, Circuit, Tech, least_delay, greatest_delay, IsPath, setup_spare, hold_spare, IsLeastSpare, IsSlackOf, IsSlack, AreSlacks, AreSmallSlacks, moved, pushed_cases, kept, IsBelow, IsWithin, setup_ticks, hold_ticks, IsTicks, IsSlackAt, AreSlacksBefore}
use Rattle.std.proofs.lemmas.List.{length_push}
use Rattle.std.proofs.lemmas.List.Elements.{All-push}
use Rattle.cts_base.specs.declared.fraction.Fraction.{Fraction}
use Rattle.cts_model.specs.declared.schedule.Schedule.{Schedule}
use Rattle.cts_model.specs.declared.schedule.Slack.{Slack}
use Rattle.cts_model.specs.Vocabulary.{arrival_of}
use Rattle.path_delays.specs.declared.window.Window.{Window}
use Rattle.path_delays.specs.Windows.{window_along, IsHull, IsHullIfAny, ComesTo, AreWindows}

-- of two times, and ticks after the one
module _ (from ticks to : ℤ) (early : IsBelow (2 * 10 ^ 19) from)
    (few : IsWithin 0 4097000000 ticks) (late : IsBelow (3 * 10 ^ 19) to) where
  -- what is left until the other is small
  pub left_small : IsBelow (10 ^ 20) (to -ℤ (from +ℤ ticks))
  left_small = record { above = omega (arith, ints); below = omega (arith, ints) }

  -- and is what the code computes
  pub left_is : kept (kept to -ℤ kept (kept from +ℤ kept ticks)) ≡ to -ℤ (from +ℤ ticks)
  left_is = omega (arith, ints)

-- a number from 1 on is its size
size_is : (den : ℤ) → pos 1 ≤ℤ den → pos (nat_abs den) ≡ den
size_is (pos n) proper = refl
size_is (negsuc n) proper = absurd (omega (arith, ints, proper))

-- no slacks before the first register, and one register more
pub slacks_next : (tech : Tech) (period : Fraction) (at : List ℤ) (windows : List (Option Window))
    (below : ℕ) (slacks : List Slack) (slack : Slack)
    → IsSlackAt tech period (arrival_of at below) (get_or windows below None) slack
    → AreSmallSlacks period.den slack → AreSlacksBefore tech period at windows below slacks
    → AreSlacksBefore tech period at windows (below + 1) (slacks ++ slack ∷ [])
slacks_next tech period at windows below slacks slack is small so_far = record {
  registers = omega (arith, length_push slacks slack, so_far.registers);
  each = λ register other here. elim (pushed_cases slacks slack other register here) [
    | inl before ↦ so_far.each register other before
    | inr last ↦
        let same : below ≡ register = sym (last.0 ∙ so_far.registers) in
        subst (λ n. IsSlackAt tech period (arrival_of at n) (get_or windows n None) other) same
        (subst (IsSlackAt tech period (arrival_of at below) (get_or windows below None)) last.1 is)
  ];
  small = All-push (AreSmallSlacks period.den) slacks slack so_far.small small;
}

module _ (circuit : Circuit) (tech : Tech) (period : Fraction) (arrival : ℕ → ℤ) (to : ℕ) where
  abbrev scale : ℕ
  scale = nat_abs period.den

  -- the denominator is the scale
  den_is : pos scale ≡ period.den
  den_is = size_is period.den period.lowest.some_den

  -- a path comes with its window
  along : (from : ℕ) (path : List ℕ) → IsPath circuit from to path
      → ComesTo circuit tech scale arrival to (window_along circuit tech scale arrival from path)
  along from path joins = (from, path, joins, refl)

  -- the latest time shows the least that is left before the setup time
  setup_least : (hull : Window) → IsHull (ComesTo circuit tech scale arrival to) hull
      → IsLeastSpare circuit (setup_spare circuit tech scale period.num arrival) to
      (setup_ticks tech period (arrival to) hull.latest)
  setup_least hull is = rw (← den_is) record {
    each = λ from path joins.
        let within = (is.each _ (along from path joins)).latest in
        let sum = moved scale (arrival from) (greatest_delay circuit tech path) tech.setup _ refl in
        omega (arith, ints, within, sum);
    from = is.last_comes.0;
    path = is.last_comes.1;
    joins = is.last_comes.2;
    shown =
        let late : arrival is.last_comes.0 +ℤ
        (pos scale *ℤ greatest_delay circuit tech is.last_comes.1) ≡ hull.latest =
        ap (λ (w : Window). w.latest) is.last_comes.3 ∙ is.latest in
        let sum = moved scale (arrival is.last_comes.0)
        (greatest_delay circuit tech is.last_comes.1) tech.setup _ refl in
        omega (arith, ints, late, sum);
  }

  -- and the earliest what is left after the hold time
  hold_least : (hull : Window) → IsHull (ComesTo circuit tech scale arrival to) hull
      → IsLeastSpare circuit (hold_spare circuit tech scale arrival) to
      (hold_ticks tech period (arrival to) hull.earliest)
  hold_least hull is = rw (← den_is) record {
    each = λ from path joins. let within =
        (is.each _ (along from path joins)).earliest in omega (arith, ints, within);
    from = is.first_comes.0;
    path = is.first_comes.1;
    joins = is.first_comes.2;
    shown =
        let early : arrival is.first_comes.0 +ℤ
        (pos scale *ℤ least_delay circuit tech is.first_comes.1) ≡ hull.earliest =
        ap (λ (w : Window). w.earliest) is.first_comes.3 ∙ is.earliest in
        omega (arith, ints, early);
  }

  -- a fraction of the least that is spared is the slack
  slack_of : (spare : (from to : ℕ) (path : List ℕ) → ℤ) (least : ℤ) (slack : Option Fraction)
      → IsLeastSpare circuit spare to least
      → IsSomeAnd slack (IsTicks period.den least) → IsSlackOf circuit scale spare to slack
  slack_of spare least None is none = absurd none
  slack_of spare least (Some fraction) is ticks = (least, is, rw den_is ticks)

  -- so the slacks are as they are defined
  slacks_at : (window : Option Window) (slack : Slack)
      → IsHullIfAny (ComesTo circuit tech scale arrival to) window
      → IsSlackAt tech period (arrival to) window slack
      → IsSlack circuit tech scale period.num arrival to slack
  slacks_at None slack none missing = record {
    setup = rw missing.setup (λ from path joins. none _ (along from path joins));
    hold = rw missing.hold (λ from path joins. none _ (along from path joins));
  }
  slacks_at (Some hull) slack is by = record {
    setup = slack_of (setup_spare circuit tech scale period.num arrival)
        (setup_ticks tech period (arrival to) hull.latest) slack.setup
        (setup_least hull is) by.setup;
    hold = slack_of (hold_spare circuit tech scale arrival)
        (hold_ticks tech period (arrival to) hull.earliest) slack.hold (hold_least hull is) by.hold;
  }

-- so are those of all registers
pub slacks_are : (circuit : Circuit) (tech : Tech) (period : Fraction) (schedule : Schedule)
    (windows : List (Option Window)) (slacks : List Slack)
    → schedule.den ≡ period.den → AreWindows circuit tech schedule windows
    → AreSlacksBefore tech period schedule.at windows (length windows) slacks
    → AreSlacks circuit tech period schedule slacks
slacks_are circuit tech period schedule windows slacks den are before = record {
  registers = before.registers ∙ are.registers;
  each = λ register slack here.
      let within : register < length windows =
      omega (arith, slice_get_within slacks register slack here, before.registers) in
      let hull = are.each register (get_or windows register None)
      (slice_get-get_or windows register None within) in
      slacks_at circuit tech period (arrival_of schedule.at) register
      (get_or windows register None) slack
      (subst (λ d. IsHullIfAny (ComesTo circuit tech (nat_abs d) (arrival_of schedule.at) register)
      (get_or windows register None)) den hull)
      (before.each register slack here);
}
