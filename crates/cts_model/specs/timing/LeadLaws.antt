-- What leads say of arrivals: as in the trees of shortest paths, chains of tight constraints show
-- that nothing is earlier. Cormen, Leiserson, Rivest and Stein, "Introduction to Algorithms", 2001.
-- The law is the clause of a function of the module laws.
use Rattle.std.specs.Prelude.{◌≡◌, ℤ, List, length, nat_abs}
use Rattle.cts_base.specs.declared.fraction.Fraction.{Fraction}
use Rattle.cts_model.specs.Types.{Circuit, Tech, Lead}
use Rattle.cts_model.specs.timing.Constraints.{IsConstraintOf}
use Rattle.cts_model.specs.timing.Leads.{EachShowsEarliest}
use Rattle.cts_model.specs.timing.Schedules.{arrival_of, AreFromZero, AreLeastArrivals}
use Rattle.cts_model.specs.timing.Timing.{Meets}

-- arrivals at all registers that meet the period over every path and are from 0 on are the least,
-- where each register is at 0 or a tight constraint of the circuit leads to it
abbrev pub LedArrivalsAreLeast : Type 0
LedArrivalsAreLeast = (circuit : Circuit) (tech : Tech) (period : Fraction) (at : List ℤ)
    (leads : List Lead) → length at ≡ length circuit.registers
    → Meets circuit tech (nat_abs period.den) period.num (arrival_of at)
    → AreFromZero (length at) (arrival_of at)
    → EachShowsEarliest (IsConstraintOf circuit tech) period at leads
    → AreLeastArrivals circuit tech period.num (nat_abs period.den) at
