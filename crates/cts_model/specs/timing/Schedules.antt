-- Arrivals at registers, and the least that meet a period. Fishburn, "Clock Skew Optimization",
-- 1990. The period and the arrivals are in ticks over a denominator.
use Rattle.std.specs.Prelude.{◌≡◌, ◌<◌, ◌≤◌, ◌*◌, ◌^◌, ℕ, ℤ, pos, ◌*ℤ◌, ◌≤ℤ◌, ◌<ℤ◌, List, length, nat_abs, slice_index_or}
use Rattle.cts_base.specs.declared.fraction.Fraction.{Fraction}
use Rattle.cts_model.specs.Types.{Circuit, Tech, Schedule}
use Rattle.cts_model.specs.timing.Timing.{Meets}

-- the arrival at a register
abbrev pub arrival_of : List ℤ → ℕ → ℤ
arrival_of at register = slice_index_or at register (pos 0)

-- the arrivals at so many registers aren't below 0
abbrev pub AreFromZero : (registers : ℕ) (arrival : ℕ → ℤ) → Type 0
AreFromZero registers arrival = (register : ℕ) → register < registers
    → pos 0 ≤ℤ arrival register

-- a period from 0 on, below 10^18 over at most 4,097
pub record IsSmallPeriod (period : Fraction) : Type 0 where
  pub from_zero : pos 0 ≤ℤ period.num
  pub small : period.num <ℤ pos (10 ^ 18)
  pub low : period.den ≤ℤ pos 4097

-- a period at which a margin is asked for: from 0 on, its numerator below 10^15 and its
-- denominator at most 10,000
pub record IsMarginPeriod (period : Fraction) : Type 0 where
  pub from_zero : pos 0 ≤ℤ period.num
  pub short : period.num <ℤ pos (10 ^ 15)
  pub fine : period.den ≤ℤ pos (10 ^ 4)

-- the arrivals meet the period over every path and are from 0 on, and no others that do and are,
-- whatever finer scale they are in, are earlier at any register
pub record AreLeastArrivals (circuit : Circuit) (tech : Tech) (period : ℤ) (scale : ℕ)
    (at : List ℤ) : Type 0 where
  pub meets : Meets circuit tech scale period (arrival_of at)
  pub from_zero : AreFromZero (length at) (arrival_of at)
  pub least : (times : ℕ) (other : ℕ → ℤ) → 1 ≤ times → AreFromZero (length at) other
      → Meets circuit tech (scale * times) (period *ℤ pos times) other
      → (register : ℕ) → register < length at
      → (pos times *ℤ arrival_of at register) ≤ℤ other register

-- an arrival for each register, over the period's denominator, and they are the least
pub record IsLeastSchedule (circuit : Circuit) (tech : Tech) (period : Fraction)
    (schedule : Schedule) : Type 0 where
  pub den : schedule.den ≡ period.den
  pub registers : length schedule.at ≡ length circuit.registers
  pub least : AreLeastArrivals circuit tech period.num (nat_abs period.den) schedule.at
