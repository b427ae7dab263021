-- What a report shows of the period and the schedule is so.
use Rattle.cts_model.proofs.Vocabulary.{◌≡◌, ℕ, ℤ, pos, ◌*ℤ◌, ◌≤ℤ◌, ◌<ℤ◌, List, length, sym, ap, subst, ◌∙◌, arith, IfSome, nat_abs, All, *ℤ_comm, ints, slice_get-get_or, Fraction, Circuit, Constraint, PeriodShow, Cycle, Floor, Report, Tech, IsConstraintOf, GivesPeriod, HoldsTogether, IsOfCircuit, IsFloorPeriod, IsLeastFraction, arrival_of, IsLeastSchedule, AtEach, IsShownLeast, IsShownTiming, cycle_of, IsAdmitted, Meets}
use Rattle.cts_model.proofs.CircuitConstraints.{cycle_is_least}
use Rattle.cts_model.proofs.LeadLemmas.{led_arrivals_are_least}
use Rattle.cts_model.proofs.PathRegisters.{path_within}
use Rattle.cts_model.proofs.RoundLemmas.{round_is_cycle}
use Rattle.cts_model.proofs.ScaleLemmas.{size_same}

module _ (circuit : Circuit) (tech : Tech) where
  -- constraints that are each of the circuit are all so
  pub all_of_circuit : (cycle : List Constraint)
      → AtEach (length cycle) (IsOfCircuit circuit tech cycle)
      → All (IsConstraintOf circuit tech) cycle
  all_of_circuit cycle each place default within = subst (λ found. IfSome found
      (IsConstraintOf circuit tech)) (slice_get-get_or cycle place default within)
      (each place within)

  -- below the floor nothing is admitted
  floor_is_least : (shown : Fraction) → IsFloorPeriod tech shown → (scale : ℕ) (period : ℤ)
      → (period *ℤ pos (nat_abs shown.den)) <ℤ (shown.num *ℤ pos scale)
      → IsAdmitted circuit tech scale period → ⊥
  floor_is_least shown is scale period small admitted =
      let one = ap (λ z. period *ℤ pos (nat_abs z)) is.whole in
      let floor = ap (λ z. z *ℤ pos scale) is.value ∙ *ℤ_comm tech.floor (pos scale) in
      omega (arith, ints, admitted.0)

  -- nor is anything below the period that is shown
  none_below : (period : Fraction) (shown : PeriodShow)
      → AtEach (length (cycle_of shown)) (HoldsTogether (cycle_of shown))
      → AtEach (length (cycle_of shown)) (IsOfCircuit circuit tech (cycle_of shown))
      → GivesPeriod tech period shown → (scale : ℕ) (below : ℤ)
      → (below *ℤ pos (nat_abs period.den)) <ℤ (period.num *ℤ pos scale)
      → IsAdmitted circuit tech scale below → ⊥
  none_below period (Cycle cycle) together of_circuit gives = cycle_is_least circuit tech period.num
      (nat_abs period.den) cycle (all_of_circuit cycle of_circuit) (record {
        is_cycle = round_is_cycle cycle together gives.0;
        counts = gives.0;
        value = gives.1;
      })
  none_below period Floor together of_circuit gives = floor_is_least period gives

  module _ (report : Report) (shown : IsShownTiming circuit tech report) where
    -- the schedule meets the period
    pub shown_meets : Meets circuit tech (nat_abs report.period.den) report.period.num
        (arrival_of report.schedule.at)
    shown_meets = record {
      setup = λ from to path joins.
          (shown.meets to (path_within circuit from to path joins).1).setup from path joins;
      hold = λ from to path joins.
          (shown.meets to (path_within circuit from to path joins).1).hold from path joins;
    }

    -- so the period is the least
    pub shown_period : IsLeastFraction circuit tech report.period
    shown_period =
        let some_den = report.period.lowest.some_den in
        let den = size_same report.period.den (omega (arith, ints, some_den)) in
        let floor = ap (λ z. z *ℤ tech.floor) den ∙ *ℤ_comm report.period.den tech.floor in
        record {
          proper = omega (arith, ints, den, some_den);
          admitted = (
            subst (λ z. z ≤ℤ report.period.num) (sym floor) shown.from_floor,
            (arrival_of report.schedule.at, shown_meets),
          );
          least = λ scale below proper. none_below report.period report.shown shown.together
              shown.of_circuit shown.gives scale below;
        }

    -- and where leads show it, so is the schedule
    pub shown_schedule : length report.schedule.at ≡ length circuit.registers
        → report.schedule.den ≡ report.period.den → IsShownLeast circuit tech report
        → IsLeastSchedule circuit tech report.period report.schedule
    shown_schedule all den least = record {
      den = den;
      registers = all;
      least = led_arrivals_are_least circuit tech report.period report.schedule.at report.leads all
          shown_meets
          (λ register within. (least.earliest register (omega (arith, all))).from_zero)
          (λ register within. (least.earliest register (omega (arith, all))).led);
    }
