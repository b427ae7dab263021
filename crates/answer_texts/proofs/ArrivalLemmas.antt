-- Arrivals that can be printed.
use Rattle.answer_texts.proofs.Vocabulary.{◌≡◌, ◌^◌, ℤ, arith, ints, All-weaker, Fraction, Schedule, AreSmallCommonTimes, CanPrint}
use Rattle.cts_base.specs.Fractions.{IsBelow}
use Rattle.safety_margin.specs.SparingSchedules.{IsSmallSparing}

-- what is below 2^93 is below 10^37
printable : (number : ℤ) → IsBelow (2 ^ 93) number → IsBelow (10 ^ 37) number
printable number low = record {
  above = omega (arith, ints, low.above);
  below = omega (arith, ints, low.below);
}

-- those that spare a margin
pub small_can_print : (schedule : Schedule) → IsSmallSparing schedule → CanPrint schedule
small_can_print schedule small = record {
  some_den = small.some_den;
  small_den = record {
    above = omega (arith, ints, small.some_den);
    below = omega (arith, ints, small.low_den);
  };
  arrivals = All-weaker (IsBelow (2 ^ 93)) (IsBelow (10 ^ 37)) printable schedule.at
      small.arrivals;
}

-- and those at a period that serves several corners
pub common_can_print : (period : Fraction) (schedule : Schedule)
    → AreSmallCommonTimes period schedule → schedule.den ≡ period.den → CanPrint schedule
common_can_print period schedule small den =
    let some = period.lowest.some_den in
    let low = small.period.low in
    record {
      some_den = omega (arith, ints, den, some);
      small_den = record {
        above = omega (arith, ints, den, some);
        below = omega (arith, ints, den, low);
      };
      arrivals = All-weaker (IsBelow (10 ^ 19)) (IsBelow (10 ^ 37)) (λ arrival is. record {
        above = omega (arith, ints, is.above);
        below = omega (arith, ints, is.below);
      }) schedule.at small.arrivals;
    }
