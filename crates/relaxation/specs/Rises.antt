-- How far values rise where constraints raise them, one at a time.
use Rattle.std.specs.Prelude.{◌≡◌, ◌<◌, ◌*◌, ◌^◌, ℕ, ℤ, pos, ◌+ℤ◌, ◌*ℤ◌, ◌≤ℤ◌, List, length}
use Rattle.cts_model.specs.declared.constraint.Constraint.{Constraint}
use Rattle.relaxation.specs.declared.gains.Gains.{Gains}
use Rattle.relaxation.specs.Gains.{SatisfiesGains}
use Rattle.relaxation.specs.Parents.{value_of}

-- no value is below the least
abbrev pub AreFrom : ℤ → List ℤ → Type 0
AreFrom least values = (register : ℕ) → register < length values
    → least ≤ℤ value_of values register

-- no value is above the greatest
abbrev pub AreUpTo : ℤ → List ℤ → Type 0
AreUpTo greatest values = (register : ℕ) → register < length values
    → value_of values register ≤ℤ greatest

-- no value is above these others, which are at a scale that many times as fine
abbrev pub AreBelow : (values : List ℤ) (times : ℕ) (other : ℕ → ℤ) → Type 0
AreBelow values times other = (register : ℕ) → register < length values
    → (pos times *ℤ value_of values register) ≤ℤ other register

-- after raises: none is below what was the least, and none is above values that satisfy the
-- constraints where none was
pub record AreRaised (constraints : List Constraint) (gains : Gains) (old new : List ℤ) : Type 0
  where
    pub registers : length new ≡ length old
    pub low : (least : ℤ) → AreFrom least old → AreFrom least new
    pub below : (times : ℕ) (other : ℕ → ℤ) → SatisfiesGains constraints gains times other
        → AreBelow old times other → AreBelow new times other

-- after so many: none is more than that many times 2^80 above what was the greatest
pub record AreRaisedBy (constraints : List Constraint) (gains : Gains) (raises : ℕ)
    (old new : List ℤ) : Type 0 where
  pub raised : AreRaised constraints gains old new
  pub high : (greatest : ℤ) → AreUpTo greatest old
      → AreUpTo (greatest +ℤ pos (raises * 2 ^ 80)) new
