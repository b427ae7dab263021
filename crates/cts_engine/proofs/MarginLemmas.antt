-- From the greatest margin of a circuit's constraints to that of its paths.
use Rattle.cts_engine.proofs.Vocabulary.{◌≡◌, ◌≢◌, ◌↔◌, ℕ, ℤ, ◌+ℤ◌, ◌≤ℤ◌, List, [], ◌∷◌, length, get_or, inl, inr, refl, sym, ap, ◌∙◌, subst, arith, All, cases_eq, ints, All-cons, All-nil, All-weaker, All-contains_itself, AllPairs-cons, Fraction, Circuit, Constraint, Schedule, Tech, PairDelay, IsConstraintOf, least_delay, greatest_delay, IsPairDelay, ListsPairs, IsPath, constraints_at}
use Rattle.std.specs.List.{Contains}
use Rattle.constraints.specs.PairConstraints.{setup_constraint, hold_constraint, constraints_of_pairs}
use Rattle.constraints.proofs.BothOfPairs.{HaveBoth, all_from_each, each_from_all}
use Rattle.constraints.proofs.PairInequalities.{setup_met, hold_met, setup_satisfied, hold_satisfied}
use Rattle.safety_margin.specs.declared.margin.Margin.{Margin}
use Rattle.safety_margin.specs.declared.margin.Margin.TheVariants as margins
use Rattle.safety_margin.specs.Answers.{IsGreatestMargin, IsMarginOf}
use Rattle.safety_margin.specs.Margins.{HasNoCycle, Spares, SparesOne}
use Rattle.safety_margin.specs.SparingSchedules.{IsSparingSchedule}
use Rattle.outcomes.specs.declared.margin.MarginOutcome.{MarginOutcome}
use Rattle.outcomes.specs.declared.margin.MarginOutcome.TheVariants.{Found, Unbounded}
use Rattle.outcomes.specs.CircuitMargins.{SparesOverPaths, IsGreatestOverPaths, HasNoPath, IsMarginOutcome, IsUnboundedOutcome}
use Rattle.outcomes.proofs.JoiningCycles.{cycle_joins}
use Rattle.cts_engine.proofs.PlaceLemmas.{All-constraints_at}

-- ---- what is spared in the constraints, and over the paths

-- what is to be spared may stand with the arrival or with what is asked
with_asked : (from asked margin to : ℤ) → ((from +ℤ margin) +ℤ asked) ≤ℤ to
    → (from +ℤ (asked +ℤ margin)) ≤ℤ to
with_asked from asked margin to met = omega (arith, ints)

with_arrival : (from asked margin to : ℤ) → (from +ℤ (asked +ℤ margin)) ≤ℤ to
    → ((from +ℤ margin) +ℤ asked) ≤ℤ to
with_arrival from asked margin to met = omega (arith, ints)

module _ {circuit : Circuit} {tech : Tech} {pairs : List PairDelay}
    (lists : ListsPairs circuit tech pairs) where
  abbrev asked : List Constraint
  asked = constraints_of_pairs tech pairs

  module _ (scale : ℕ) (period margin : ℤ) (arrival : ℕ → ℤ) where
    -- what is spared over every path is spared in both constraints of a pair
    both_spared : SparesOverPaths circuit tech scale period margin arrival → (pair : PairDelay)
        → IsPairDelay circuit tech pair → HaveBoth tech (SparesOne scale period margin arrival) pair
    both_spared over pair delays = search (arith, with_asked, setup_satisfied, hold_satisfied)

    spares_all : SparesOverPaths circuit tech scale period margin arrival
        → Spares asked scale period margin arrival
    spares_all over =
        let Spared = SparesOne scale period margin arrival in
        all_from_each tech Spared pairs
        (All-weaker (IsPairDelay circuit tech) (HaveBoth tech Spared) (both_spared over) pairs
        lists.delays)

    -- the pair of a path, with what is spared in its constraints
    record IsSparedPath (from to : ℕ) (path : List ℕ) : Type 0 where
      pair : PairDelay
      from_is : pair.from ≡ from
      to_is : pair.to ≡ to
      least : pair.least ≤ℤ least_delay circuit tech path
      greatest : greatest_delay circuit tech path ≤ℤ pair.greatest
      both : HaveBoth tech (SparesOne scale period margin arrival) pair

    spared_path : Spares asked scale period margin arrival → (from to : ℕ) (path : List ℕ)
        → IsPath circuit from to path → IsSparedPath from to path
    spared_path spares from to path is_path =
        let Spared = SparesOne scale period margin arrival in
        let (place, pair, within, here, (from_is, to_is)) = lists.all from to path is_path in
        let delays : IsPairDelay circuit tech pair =
        subst (IsPairDelay circuit tech) here (lists.delays place pair within) in
        let its_path : IsPath circuit pair.from pair.to path = rw (from_is, to_is) is_path in
        record {
          pair = pair;
          from_is = from_is;
          to_is = to_is;
          least = delays.least path its_path;
          greatest = delays.greatest path its_path;
          both = subst (HaveBoth tech Spared) here
              (each_from_all tech Spared pairs spares place pair within);
        }

    over_paths : Spares asked scale period margin arrival
        → SparesOverPaths circuit tech scale period margin arrival
    over_paths spares = record {
      setup = λ from to path is_path.
          let found = spared_path spares from to path is_path in
          let pair = found.pair in
          let met = setup_met scale (arrival pair.from +ℤ margin) (arrival pair.to) pair.greatest
          (greatest_delay circuit tech path) tech.setup period found.greatest
          (with_arrival (arrival pair.from) _ margin _ found.both.0) in
          rw (found.from_is, found.to_is) at met;
      hold = λ from to path is_path.
          let found = spared_path spares from to path is_path in
          let pair = found.pair in
          let met = hold_met scale (arrival pair.from) (arrival pair.to +ℤ margin) pair.least
          (least_delay circuit tech path) tech.hold period found.least
          (with_arrival (arrival pair.to) _ margin _ found.both.1) in
          rw (found.from_is, found.to_is) at met;
    }

    -- the one is the other
    spares_alike : Spares asked scale period margin arrival
        ↔ SparesOverPaths circuit tech scale period margin arrival
    spares_alike = (over_paths, spares_all)

  -- ---- paths and cycles

  -- both constraints of a pair are a cycle, and the setup constraint alone is where the registers
  -- are one
  pair_cycle : (pair : PairDelay) → HaveBoth tech (Contains asked) pair → HasNoCycle asked → ⊥
  pair_cycle pair (setup, hold) none = elim (cases_eq pair.from pair.to) [
    | inl same ↦
        let alone = setup_constraint tech.setup pair ∷ [] in
        none alone
        (All-cons (Contains asked) (setup_constraint tech.setup pair) [] setup
        (All-nil (Contains asked)))
        (record { closed = (refl, sym same); once = λ i j d before within. absurd (omega arith) })
    | inr apart ↦
        let second = hold_constraint tech.hold pair ∷ [] in
        none (setup_constraint tech.setup pair ∷ second)
        (All-cons (Contains asked) (setup_constraint tech.setup pair) second setup
        (All-cons (Contains asked) (hold_constraint tech.hold pair) [] hold
        (All-nil (Contains asked))))
        (record {
          closed = (refl, (refl, refl));
          once = AllPairs-cons (λ (first next : Constraint). first.tail ≢ next.tail)
              (setup_constraint tech.setup pair) second
              (All-cons (λ (next : Constraint). pair.from ≢ next.tail)
              (hold_constraint tech.hold pair) [] apart
              (All-nil (λ (next : Constraint). pair.from ≢ next.tail)))
              (λ i j d before within. absurd (omega arith));
        })
  ]

  -- so where there is no cycle there is no path
  no_path : HasNoCycle asked → HasNoPath circuit
  no_path none from to path is_path =
      let (place, pair, within, here, (from_is, to_is)) = lists.all from to path is_path in
      pair_cycle (get_or pairs place pair)
      (each_from_all tech (Contains asked) pairs (All-contains_itself asked) place pair within) none

  -- ---- the greatest margin

  -- the least schedule in the constraints is that over the paths
  sparing_over_paths : (period value : Fraction) (schedule : Schedule)
      → IsSparingSchedule (length circuit.registers) (Spares asked) period value schedule
      → IsSparingSchedule (length circuit.registers) (SparesOverPaths circuit tech) period value
      schedule
  sparing_over_paths period value schedule spared = record {
    registers_are = spared.registers_are;
    den = spared.den;
    number = spared.number;
    number_is = spared.number_is;
    margin = spared.margin;
    margin_is = spared.margin_is;
    least = record {
      spares = (spares_alike _ _ _ _).0 spared.least.spares;
      from_zero = spared.least.from_zero;
      least = λ times other some others over.
          spared.least.least times other some others ((spares_alike _ _ _ _).1 over);
    };
  }

  -- and so is the greatest margin
  greatest_over_paths : All (IsConstraintOf circuit tech) asked → (period value : Fraction)
      (cycle : List ℕ) (schedule : Schedule)
      → IsGreatestMargin (length circuit.registers) asked period value cycle schedule
      → IsGreatestOverPaths circuit tech period value (constraints_at asked cycle) schedule
  greatest_over_paths each period value cycle schedule is = record {
    greatest = λ scale number margin arrival some number_is over.
        is.greatest scale number margin arrival some number_is
        ((spares_alike scale number margin arrival).1 over);
    of_circuit = All-constraints_at (IsConstraintOf circuit tech) asked cycle each is.within;
    shows = is.shows;
    lowest = is.lowest;
    spared = sparing_over_paths period value schedule is.spared;
  }

  -- so it is where the search of these constraints found it
  module _ {constraints : List Constraint} (same : constraints ≡ asked) {registers : ℕ}
      (as_many : registers ≡ length circuit.registers) (period : Fraction) (margin : Margin)
      (is : IsMarginOf registers constraints period margin) where
    pub found_over_paths : All (IsConstraintOf circuit tech) constraints → (value : Fraction)
        (cycle : List ℕ) (schedule : Schedule) → margin ≡ margins.Found value cycle schedule
        → (listed : List Constraint) → listed ≡ constraints_at constraints cycle
        → IsGreatestOverPaths circuit tech period value listed schedule
    found_over_paths each value cycle schedule found listed listed_is =
        let of_list = subst (IsMarginOf registers constraints period) found is in
        let of_circuit = subst (λ n. IsGreatestMargin n constraints period value cycle schedule)
        as_many of_list in
        let of_asked = subst (λ list. IsGreatestMargin (length circuit.registers) list period value
        cycle schedule) same of_circuit in
        subst (λ list. IsGreatestOverPaths circuit tech period value list schedule)
        (sym (listed_is ∙ ap (λ list. constraints_at list cycle) same))
        (greatest_over_paths (subst (All (IsConstraintOf circuit tech)) same each) period value
        cycle schedule of_asked)

    pub unbounded_over_paths : margin ≡ margins.Unbounded → HasNoPath circuit
    unbounded_over_paths unbounded =
        no_path (subst HasNoCycle same
        (subst (IsMarginOf registers constraints period) unbounded is))

-- ---- the outcome

-- the outcome is that every margin is spared exactly where there is no path
pub unbounded_exactly : (circuit : Circuit) (tech : Tech) (period : Fraction)
    (outcome : MarginOutcome) → IsMarginOutcome circuit tech period outcome
    → IsUnboundedOutcome outcome ↔ HasNoPath circuit
unbounded_exactly circuit tech period (Found value cycle schedule) found = (
  λ unbounded. absurd unbounded,
  λ none. cycle_joins circuit tech cycle found.of_circuit found.shows.is_cycle none,
)
unbounded_exactly circuit tech period Unbounded none = (λ unbounded. none, λ _. tt)
