-- The least schedule that spares a margin at a period. Fishburn, "Clock Skew Optimization", 1990.
use Rattle.std.specs.Prelude.{◌≡◌, ◌<◌, ◌≤◌, ◌*◌, ◌^◌, ℕ, ℤ, pos, ◌*ℤ◌, ◌≤ℤ◌, List, All, length, nat_abs}
use Rattle.std.specs.Int.{IsGcd}
use Rattle.cts_base.specs.declared.fraction.Fraction.{Fraction}
use Rattle.cts_model.specs.declared.schedule.Schedule.{Schedule}
use Rattle.cts_model.specs.Vocabulary.{IsBelow, arrival_of, AreFromZero}
use Rattle.safety_margin.specs.Margins.{IsOver, Sparing}

-- a multiple of both numbers from 1 on, by factors that no number above 1 divides: Knuth, "The Art
-- of Computer Programming", volume 2, section 4.5.2
pub record IsLeastMultiple (first second multiple : ℤ) : Type 0 where
  pub some : pos 1 ≤ℤ multiple
  pub first_factor : ℤ
  pub of_first : multiple ≡ first *ℤ first_factor
  pub second_factor : ℤ
  pub of_second : multiple ≡ second *ℤ second_factor
  pub coprime : IsGcd (nat_abs second_factor) (nat_abs first_factor) 1

-- the arrivals spare the margin, are from 0 on, and any others that do and are, at a scale that
-- many times as fine, are at least as late
pub record AreLeastSparing (Holds : Sparing) (scale : ℕ) (period margin : ℤ)
    (at : List ℤ) : Type 0 where
  pub spares : Holds scale period margin (arrival_of at)
  pub from_zero : AreFromZero (length at) (arrival_of at)
  pub least : (times : ℕ) (other : ℕ → ℤ) → 1 ≤ times → AreFromZero (length at) other
      → Holds (scale * times) (period *ℤ pos times) (margin *ℤ pos times) other
      → (register : ℕ) → register < length at
      → (pos times *ℤ arrival_of at register) ≤ℤ other register

-- the schedule is the least that spares the value at the period, over the least common multiple of
-- their denominators
pub record IsSparingSchedule (registers : ℕ) (Holds : Sparing) (period value : Fraction)
    (schedule : Schedule) : Type 0 where
  pub registers_are : length schedule.at ≡ registers
  pub den : IsLeastMultiple period.den value.den schedule.den
  pub number : ℤ
  pub number_is : IsOver period (nat_abs schedule.den) number
  pub margin : ℤ
  pub margin_is : IsOver value (nat_abs schedule.den) margin
  pub least : AreLeastSparing Holds (nat_abs schedule.den) number margin schedule.at

-- arrivals below 2^93 over a denominator from 1 to 409,700,000,000
pub record IsSmallSparing (schedule : Schedule) : Type 0 where
  pub some_den : pos 1 ≤ℤ schedule.den
  pub low_den : schedule.den ≤ℤ pos (4097 * 10 ^ 8)
  pub arrivals : All (IsBelow (2 ^ 93)) schedule.at
