-- The lines of a schedule alone: when the clock is to reach each register. Fishburn, "Clock Skew
-- Optimization", 1990.
use Rattle.std.specs.Prelude.{◌^◌, ℕ, pos, ◌≤ℤ◌, List, [], ◌∷◌, All, length, replicate, codes}
use Rattle.cts_base.specs.Fractions.{IsBelow, quotient_text}
use Rattle.answer_texts.specs.Types.{Circuit, Schedule}
use Rattle.cts_model.specs.Vocabulary.{register_name, Words, count_line, lines_below, arrival_of}

-- a register and its arrival in ticks, by its number
abbrev pub arrival_line : Circuit → Schedule → ℕ → Words
arrival_line circuit schedule register =
    register_name circuit register ∷ quotient_text (arrival_of schedule.at register) schedule.den
    ∷ []

-- how many registers there are, and each of them in order
abbrev pub arrival_lines : Circuit → Schedule → List Words
arrival_lines circuit schedule = count_line (codes "registers") (length schedule.at)
    ∷ lines_below (arrival_line circuit schedule) (length schedule.at)

-- the schedule in which the clock reaches each register at 0
abbrev pub all_at_zero : (registers : ℕ) → Schedule
all_at_zero registers = record { den = pos 1; at = replicate registers (pos 0) }

-- arrivals and a denominator from 1 on that can be brought to lowest terms
pub record CanPrint (schedule : Schedule) : Type 0 where
  pub some_den : pos 1 ≤ℤ schedule.den
  pub small_den : IsBelow (10 ^ 37) schedule.den
  pub arrivals : All (IsBelow (10 ^ 37)) schedule.at
