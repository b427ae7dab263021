-- What a report gives to its judge.
use Rattle.cert_check.proofs.Vocabulary.{◌≡◌, ◌<◌, ◌≤◌, ℕ, All, length, refl, ap, ◌∙◌, arith, All-nil, First, Second, HasSmallWeight, HasSmallWeights, IsBetweenRegisters, ShowsPeriodAmong, count_in, cycle_of}
use Rattle.cts_model.specs.declared.period.PeriodShow.{PeriodShow}
use Rattle.cts_model.specs.declared.period.PeriodShow.TheVariants.{Cycle, Floor}
use Rattle.cts_model.specs.declared.report.Version.{Version}

-- the constraints of the cycle that is shown are between registers
pub cycle_among : (registers : ℕ) (shown : PeriodShow) → ShowsPeriodAmong registers shown
    → All (IsBetweenRegisters registers) (cycle_of shown)
cycle_among registers (Cycle cycle) among = among
cycle_among registers Floor among = All-nil (IsBetweenRegisters registers)

-- they have small weights
pub cycle_light : (shown : PeriodShow) → HasSmallWeights shown
    → All HasSmallWeight (cycle_of shown)
cycle_light (Cycle cycle) small = small.2
cycle_light Floor small = All-nil HasSmallWeight

-- and are few
pub cycle_short : (shown : PeriodShow) → HasSmallWeights shown → length (cycle_of shown) ≤ 9999
cycle_short (Cycle cycle) small = small.1
cycle_short Floor small = omega arith

-- a list of the second version alone has all its entries in that version, and where it has one
pub second_count : (version : Version) (count all : ℕ) → all ≡ count_in version count
    → version ≡ Second → all ≡ count
second_count version count all is second = is ∙ ap (λ v. count_in v count) second

pub listed_count : (version : Version) (count all place : ℕ) → all ≡ count_in version count
    → place < all → all ≡ count
listed_count First count all place is low = absurd (omega arith)
listed_count Second count all place is low = is

pub listed_second : (version : Version) (count all place : ℕ) → all ≡ count_in version count
    → place < all → version ≡ Second
listed_second First count all place is low = absurd (omega arith)
listed_second Second count all place is low = refl
