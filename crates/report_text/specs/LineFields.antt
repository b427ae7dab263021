-- What a word of a report's line may be asked to be.
use Rattle.std.specs.Prelude.{ℕ, ℤ, List}

-- that word; a version; a kind of constraint; that number; one of a range; how many words follow;
-- whole ticks; a period; steps of a unit below a bound in size; the same, or `-` for none; the name
-- of a register, of that one, of that or a later one, of a signal
pub data Field : Type 0 where
  Word : (text : List ℕ) → Field
  Version : Field
  Kind : Field
  Exactly : (number : ℕ) → Field
  Number : (least most : ℕ) → Field
  Counted : (count most : ℕ) → Field
  Weight : Field
  Period : Field
  Steps : (over bound : ℤ) → Field
  Slack : (over bound : ℤ) → Field
  Register : Field
  Named : (register : ℕ) → Field
  From : (first : ℕ) → Field
  Signal : Field
