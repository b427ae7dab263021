-- What is judged of a report's timing, place by place, is what the report says of it.
use Rattle.cts_model.proofs.Vocabulary.{◌≡◌, ◌⊎◌, ℕ, List, [], ◌∷◌, length, Option, Some, None, inl, inr, refl, ap, subst, arith, IfSome, nat_abs, All, get_or_from_slice_get, slice_get_within, Fraction, Circuit, Constraint, PeriodShow, Cycle, Floor, Report, Tech, IsConstraintOf, GivesPeriod, HoldsTogether, IsOfCircuit, ShowsLeads, ShowsTiming, IsPeriodShown, arrival_of, AtEach, IsShownLeast, IsShownTiming, cycle_of}
use Rattle.std.specs.Prelude.{◌≢◌, slice_get}
use Rattle.cts_model.specs.Vocabulary.{GivesWeight, IsSlack}
use Rattle.cts_model.proofs.RoundLemmas.{cycle_holds_together, round_is_cycle}
use Rattle.cts_model.proofs.ShownTimings.{all_of_circuit, shown_meets}

-- what holds of a value wherever it is there
pub if_there : {X : Type 0} (found : Option X) {Holds : X → Type 0}
    → ((value : X) → found ≡ Some value → Holds value) → IfSome found Holds
if_there None each = tt
if_there (Some value) each = each value refl

module _ (circuit : Circuit) (tech : Tech) where
  -- constraints that are all of the circuit are each so
  each_of_circuit : (cycle : List Constraint) → All (IsConstraintOf circuit tech) cycle
      → AtEach (length cycle) (IsOfCircuit circuit tech cycle)
  each_of_circuit cycle all place within = if_there (slice_get cycle place)
      (λ constraint here. subst (IsConstraintOf circuit tech)
      (get_or_from_slice_get cycle place constraint constraint here) (all place constraint within))

  -- constraints that hold together and give the period are a cycle that shows it
  shown_period : (period : Fraction) (shown : PeriodShow)
      → AtEach (length (cycle_of shown)) (HoldsTogether (cycle_of shown))
      → AtEach (length (cycle_of shown)) (IsOfCircuit circuit tech (cycle_of shown))
      → GivesPeriod tech period shown → IsPeriodShown circuit tech period shown
  shown_period period (Cycle cycle) together of_circuit gives = (
    all_of_circuit circuit tech cycle of_circuit,
    record {
      is_cycle = round_is_cycle cycle together gives.0;
      counts = gives.0;
      value = gives.1;
    },
  )
  shown_period period Floor together of_circuit gives = gives

  -- and the other way round
  judged_together : (period : Fraction) (shown : PeriodShow)
      → IsPeriodShown circuit tech period shown
      → AtEach (length (cycle_of shown)) (HoldsTogether (cycle_of shown))
  judged_together period (Cycle cycle) is place within =
      cycle_holds_together cycle is.1.is_cycle place within
  judged_together period Floor is place within = absurd (omega arith)

  judged_of_circuit : (period : Fraction) (shown : PeriodShow)
      → IsPeriodShown circuit tech period shown
      → AtEach (length (cycle_of shown)) (IsOfCircuit circuit tech (cycle_of shown))
  judged_of_circuit period (Cycle cycle) is place within =
      each_of_circuit cycle is.0 place within
  judged_of_circuit period Floor is place within = absurd (omega arith)

  judged_gives : (period : Fraction) (shown : PeriodShow)
      → IsPeriodShown circuit tech period shown → GivesPeriod tech period shown
  judged_gives period (Cycle cycle) is = (is.1.counts, is.1.value)
  judged_gives period Floor is = is

  module _ (report : Report) (arrivals : length report.schedule.at ≡ length circuit.registers)
    where
      -- what is judged of the timing is what the report says of it
      pub said_timing : length report.slacks ≡ length circuit.registers
          → IsShownTiming circuit tech report → ShowsTiming circuit tech report
      said_timing slacks shown = record {
        from_floor = shown.from_floor;
        shown = shown_period report.period report.shown shown.together shown.of_circuit shown.gives;
        meets = shown_meets circuit tech report shown;
        slacks = record {
          registers = slacks;
          each = λ register slack here.
              let within = slice_get_within report.slacks register slack here in
              subst (λ found. IfSome found (IsSlack circuit tech (nat_abs report.period.den)
              report.period.num (arrival_of report.schedule.at) register)) here
              (shown.slacks register (omega (arith, slacks)));
        };
      }

      -- and the other way round
      pub judged_timing : ShowsTiming circuit tech report → IsShownTiming circuit tech report
      judged_timing said = record {
        from_floor = said.from_floor;
        together = judged_together report.period report.shown said.shown;
        of_circuit = judged_of_circuit report.period report.shown said.shown;
        gives = judged_gives report.period report.shown said.shown;
        meets = λ to within. record {
          setup = λ from path joins. said.meets.setup from to path joins;
          hold = λ from path joins. said.meets.hold from to path joins;
        };
        slacks = λ register within. if_there (slice_get report.slacks register)
            (λ slack here. said.slacks.each register slack here);
      }

      -- a path that is printed gives what it has to
      given : (path : List ℕ) (Gives : Type 0) → path ≢ [] → (path ≡ []) ⊎ Gives → Gives
      given path Gives some (inl none) = absurd (some none)
      given path Gives some (inr gives) = gives

      given_or_none : (path : List ℕ) (Gives : Type 0) → (path ≢ [] → Gives)
          → (path ≡ []) ⊎ Gives
      given_or_none [] Gives gives = inl refl
      given_or_none (number ∷ path) Gives gives =
          inr (gives (λ none. absurd (omega (arith, ap length none))))

      -- so it is with the paths and the leads
      pub said_leads : IsShownLeast circuit tech report → ShowsLeads circuit tech report
      said_leads shown = record {
        paths = λ place constraint path here there some. given path
            (GivesWeight circuit tech constraint path) some
            (subst (λ found. IfSome found (λ path. (path ≡ [])
            ⊎ GivesWeight circuit tech constraint path)) there
            (subst (λ found. IfSome found (λ constraint. IfSome (slice_get report.paths place)
            (λ path. (path ≡ []) ⊎ GivesWeight circuit tech constraint path))) here
            (shown.paths place (slice_get_within (cycle_of report.shown) place constraint here))));
        from_zero = λ register within.
            (shown.earliest register (omega (arith, arrivals))).from_zero;
        led = λ register within. (shown.earliest register (omega (arith, arrivals))).led;
      }

      -- and the other way round
      pub judged_leads : ShowsLeads circuit tech report → IsShownLeast circuit tech report
      judged_leads said = record {
        paths = λ place within. if_there (slice_get (cycle_of report.shown) place)
            (λ constraint here. if_there (slice_get report.paths place)
            (λ path there. given_or_none path (GivesWeight circuit tech constraint path)
            (λ some. said.paths place constraint path here there some)));
        earliest = λ register within. record {
          from_zero = said.from_zero register (omega (arith, arrivals));
          led = said.led register (omega (arith, arrivals));
        };
      }
