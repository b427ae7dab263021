-- The constraints of a pair beside the inequalities of its paths.
use Rattle.std.proofs.Common.{ℕ, ◌+◌, ◌≤◌, ℤ, pos, ◌+ℤ◌, ◌-ℤ◌, ◌*ℤ◌, ◌≤ℤ◌, arith}
use Rattle.std.proofs.Math.Nat.{mul-le-mul_left}
use Rattle.std.proofs.lemmas.Int.{ints}
use Rattle.cts_model.specs.Vocabulary.{MeetsSetup, MeetsHold}
use borrow.Author.Differences.{up, down}

-- what holds at the greatest delay holds at any
pub setup_met : (scale : ℕ) (launch capture greatest delay setup period : ℤ) → delay ≤ℤ greatest
    → (launch +ℤ (pos scale *ℤ (greatest +ℤ setup))) ≤ℤ (capture +ℤ (period *ℤ pos 1))
    → MeetsSetup launch capture delay setup (pos scale) period
setup_met scale launch capture greatest delay setup period below satisfied =
    let plain : up (delay +ℤ setup) + down (greatest +ℤ setup)
    ≤ down (delay +ℤ setup) + up (greatest +ℤ setup) = omega (arith, ints) in
    omega (arith, ints, mul-le-mul_left scale plain)

-- and what holds at the least
pub hold_met : (scale : ℕ) (launch capture least delay hold period : ℤ) → least ≤ℤ delay
    → (capture +ℤ (pos scale *ℤ (hold -ℤ least))) ≤ℤ (launch +ℤ (period *ℤ pos 0))
    → MeetsHold launch capture delay hold (pos scale)
hold_met scale launch capture least delay hold period above satisfied =
    let plain : down (hold -ℤ least) + up hold + down delay
    ≤ up (hold -ℤ least) + down hold + up delay = omega (arith, ints) in
    omega (arith, ints, mul-le-mul_left scale plain)

-- what the path with the greatest delay meets satisfies the setup constraint
pub setup_satisfied : (scale : ℕ) (launch capture greatest setup period : ℤ)
    → MeetsSetup launch capture greatest setup (pos scale) period
    → (launch +ℤ (pos scale *ℤ (greatest +ℤ setup))) ≤ℤ (capture +ℤ (period *ℤ pos 1))
setup_satisfied scale launch capture greatest setup period meets = omega (arith, ints)

-- and the one with the least the hold constraint
pub hold_satisfied : (scale : ℕ) (launch capture least hold period : ℤ)
    → MeetsHold launch capture least hold (pos scale)
    → (capture +ℤ (pos scale *ℤ (hold -ℤ least))) ≤ℤ (launch +ℤ (period *ℤ pos 0))
hold_satisfied scale launch capture least hold period meets =
    let plain : up (hold -ℤ least) + down hold + up least
    ≤ down (hold -ℤ least) + up hold + down least = omega (arith, ints) in
    omega (arith, ints, mul-le-mul_left scale plain)
