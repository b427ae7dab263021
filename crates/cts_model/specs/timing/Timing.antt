-- When a period admits arrival times. Fishburn, "Clock Skew Optimization", 1990. Times are in ticks
-- over a scale: the period is period / scale, and register i's arrival is arrival i / scale.
use Rattle.std.specs.Prelude.{ℕ, ◌≤◌, ℤ, pos, ◌+ℤ◌, ◌*ℤ◌, ◌≤ℤ◌, ◌<ℤ◌, List}
use Rattle.cts_model.specs.Types.{Circuit, Tech}
use Rattle.cts_model.specs.netlist.Paths.{IsPath}
use Rattle.cts_model.specs.timing.Delays.{least_delay, greatest_delay}

-- setup: what is launched settles at least the setup time before the edge that captures it, a
-- period later
abbrev pub MeetsSetup : (launch capture greatest setup scale period : ℤ) → Type 0
MeetsSetup launch capture greatest setup scale period =
    (launch +ℤ (scale *ℤ (greatest +ℤ setup))) ≤ℤ (capture +ℤ period)

-- hold: what an edge launches reaches the register that captures no earlier than the hold time
-- after the same edge gets there
abbrev pub MeetsHold : (launch capture least hold scale : ℤ) → Type 0
MeetsHold launch capture least hold scale =
    (capture +ℤ (scale *ℤ hold)) ≤ℤ (launch +ℤ (scale *ℤ least))

-- both inequalities, over every path
pub record Meets (circuit : Circuit) (tech : Tech) (scale : ℕ) (period : ℤ)
    (arrival : ℕ → ℤ) : Type 0 where
  pub setup : (from to : ℕ) (path : List ℕ) → IsPath circuit from to path →
      MeetsSetup (arrival from) (arrival to) (greatest_delay circuit tech path) tech.setup
      (pos scale) period
  pub hold : (from to : ℕ) (path : List ℕ) → IsPath circuit from to path →
      MeetsHold (arrival from) (arrival to) (least_delay circuit tech path) tech.hold (pos scale)

-- the period isn't below the floor, and some arrival times meet both inequalities
abbrev pub IsAdmitted : Circuit → Tech → ℕ → ℤ → Type 0
IsAdmitted circuit tech scale period = ((pos scale *ℤ tech.floor) ≤ℤ period)
    × ((arrival : ℕ → ℤ) × Meets circuit tech scale period arrival)

-- the fraction is admitted, and no smaller one is, whatever its denominator
pub record IsLeastPeriod (circuit : Circuit) (tech : Tech) (numerator : ℤ)
    (denominator : ℕ) : Type 0 where
  pub proper : 1 ≤ denominator
  pub admitted : IsAdmitted circuit tech denominator numerator
  pub least : (scale : ℕ) (period : ℤ) → 1 ≤ scale
      → (period *ℤ pos denominator) <ℤ (numerator *ℤ pos scale)
      → IsAdmitted circuit tech scale period → ⊥
