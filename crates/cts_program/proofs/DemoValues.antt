-- The options of the commands `demo` and `margin` that name no files.
use Rattle.cts_program.proofs.Vocabulary.{◌≡◌, ◌||◌, Bool, true, false, List, [], ℕ, refl, arith, Demo, Margin, is_number_within, is_period, HasValidValues}
use Rattle.std.specs.Borrow.{Bor}

-- a test passes where it is the only one that may
only : (b : Bool) → (b || false) ≡ true → b ≡ true
only true pass = refl
only false pass = pass

-- where its words are as they are due, they are digits of numbers within bounds
pub demo_values : (registers seed : Bor (List ℕ)) → HasValidValues (Demo registers seed)
    → (is_number_within 2 1000 registers.now ≡ true) × (is_number_within 0 999 seed.now ≡ true)
demo_values registers seed values = (
  only (is_number_within 2 1000 registers.now) (values 0 (registers.now, []) (omega arith)),
  only (is_number_within 0 999 seed.now) (values 1 (seed.now, []) (omega arith)),
)

-- or they spell a period
pub margin_value : (bench file period : Bor (List ℕ)) → HasValidValues (Margin bench file period)
    → is_period period.now ≡ true
margin_value bench file period values =
    only (is_period period.now) (values 2 (period.now, []) (omega arith))
