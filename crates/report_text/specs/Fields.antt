-- What a word of a report's line has to be, by this project's choice, and its first flaw.
use Rattle.std.specs.Prelude.{List, None, Option, Some, [], codes, length, map, pos, ℕ, ℤ, ◌*ℤ◌, ◌+ℤ◌, ◌<ℤ◌, ◌<◌, ◌^◌, ◌∷◌, ◌≡◌, ◌≤ℤ◌, ◌≤◌, ◌⊎◌}
use Rattle.report_text.specs.Common.{IsBelow, IsLowest, SpellsWhole, SpellsQuotient, HaveSmallSizes, IsLargeQuotient, IsNoFraction, Circuit, register_name, signal_name, Flaw, range_with_len}
use Rattle.report_text.specs.declared.field.Flaw.TheVariants as flaws
use Rattle.report_text.specs.LineFields.{Field, Word, Version, Kind, Exactly, Number, Counted, Weight, Period, Steps, Slack, Register, Named, From, Signal}

-- the text has the form of a fraction; lowest terms are asked only of numbers below 10^37 in size
abbrev pub IsFractionForm : List ℕ → (num den : ℤ) → Type 0
IsFractionForm text num den = SpellsQuotient text num den
    × (HaveSmallSizes num den → IsLowest num den)

-- the value is so many steps, of which one has so many parts of a unit
abbrev pub AreSteps : (over num den steps : ℤ) → Type 0
AreSteps over num den steps = (num *ℤ over) ≡ (steps *ℤ den)

-- first, the word has the form that its place asks
abbrev pub IsFormed : Field → List ℕ → Type 0
IsFormed (Word word) text = text ≡ word
IsFormed Version text = (text ≡ codes "1") ⊎ (text ≡ codes "2")
IsFormed Kind text = (text ≡ codes "setup") ⊎ (text ≡ codes "hold")
IsFormed (Exactly number) text = SpellsWhole text (pos number)
IsFormed (Number least most) text = (value : ℤ) × SpellsWhole text value × (pos least ≤ℤ value)
IsFormed (Counted count most) text = (1 ≤ count) × SpellsWhole text (pos count)
IsFormed Weight text = (value : ℤ) × SpellsWhole text value
IsFormed Period text = (num : ℤ) × (den : ℤ) × IsFractionForm text num den × (pos 0 ≤ℤ num)
IsFormed (Steps over bound) text = (num : ℤ) × (den : ℤ) × IsFractionForm text num den
IsFormed (Slack over bound) text =
    (text ≡ codes "-") ⊎ ((num : ℤ) × (den : ℤ) × IsFractionForm text num den)
IsFormed field text = Unit {0}

-- then, a name is that of a register, or of a signal
abbrev pub NamesRegister : Circuit → List ℕ → Type 0
NamesRegister circuit text = (register : ℕ) × (register < length circuit.registers)
    × (register_name circuit register ≡ text)

abbrev pub NamesSignal : Circuit → List ℕ → Type 0
NamesSignal circuit text = (number : ℕ) × (number < length circuit.signals)
    × (signal_name circuit number ≡ text)

abbrev pub IsKnown : Circuit → Field → List ℕ → Type 0
IsKnown circuit Register text = NamesRegister circuit text
IsKnown circuit (Named register) text = NamesRegister circuit text
IsKnown circuit (From first) text = NamesRegister circuit text
IsKnown circuit Signal text = NamesSignal circuit text
IsKnown circuit field text = Unit {0}

-- then, a small fraction is a whole number of steps, a register is the one that is due, and one of
-- two isn't before the other
abbrev pub IsWholeSteps : (over : ℤ) → List ℕ → Type 0
IsWholeSteps over text = (num den : ℤ) → SpellsQuotient text num den → HaveSmallSizes num den
    → (steps : ℤ) × AreSteps over num den steps

abbrev pub IsFit : Circuit → Field → List ℕ → Type 0
IsFit circuit (Steps over bound) text = IsWholeSteps over text
IsFit circuit (Slack over bound) text = IsWholeSteps over text
IsFit circuit (Named register) text = register_name circuit register ≡ text
IsFit circuit (From first) text = (register : ℕ) → register < length circuit.registers
    → register_name circuit register ≡ text → first ≤ register
IsFit circuit field text = Unit {0}

-- at last, a number is within its bound
abbrev pub AreFewSteps : (over bound : ℤ) → List ℕ → Type 0
AreFewSteps over bound text = (num den : ℤ) → SpellsQuotient text num den
    → HaveSmallSizes num den × ((steps : ℤ) → AreSteps over num den steps
    → (bound ≤ℤ steps → ⊥) × ((steps +ℤ bound) ≤ℤ pos 0 → ⊥))

abbrev pub IsWithin : Field → List ℕ → Type 0
IsWithin (Number least most) text = (value : ℤ) → SpellsWhole text value → value ≤ℤ pos most
IsWithin (Counted count most) text = count ≤ most
IsWithin Weight text = (value : ℤ) → SpellsWhole text value → IsBelow (10 ^ 12) value
IsWithin Period text = (num den : ℤ) → SpellsQuotient text num den
    → (num <ℤ pos (10 ^ 18)) × (den ≤ℤ pos 4097)
IsWithin (Steps over bound) text = AreFewSteps over bound text
IsWithin (Slack over bound) text = AreFewSteps over bound text
IsWithin field text = Unit {0}

-- which of the four fails first
abbrev pub IsFirstFlaw : (Formed Known Fit Within : Type 0) → Option Flaw → Type 0
IsFirstFlaw Formed Known Fit Within None = Formed × Known × Fit × Within
IsFirstFlaw Formed Known Fit Within (Some flaws.Form) = Formed → ⊥
IsFirstFlaw Formed Known Fit Within (Some flaws.Unknown) = Formed × (Known → ⊥)
IsFirstFlaw Formed Known Fit Within (Some flaws.Unfit) = Formed × Known × (Fit → ⊥)
IsFirstFlaw Formed Known Fit Within (Some flaws.Large) = Formed × Known × Fit × (Within → ⊥)

-- what is wrong with a word
abbrev pub WordHasFlaw : Circuit → Field → List ℕ → Option Flaw → Type 0
WordHasFlaw circuit field text flaw = IsFirstFlaw (IsFormed field text)
    (IsKnown circuit field text) (IsFit circuit field text) (IsWithin field text) flaw

-- something holds of each field and its word, and there are as many words
abbrev pub EachWord : (Field → List ℕ → Type 0) → List Field → List (List ℕ) → Type 0
EachWord Holds [] [] = Unit {0}
EachWord Holds (field ∷ fields) (word ∷ words) = Holds field word × EachWord Holds fields words
EachWord Holds fields words = ⊥

-- what is wrong with a line of such fields: first with the form of any word, and so on
abbrev pub LineHasFlaw : Circuit → List Field → List (List ℕ) → Option Flaw → Type 0
LineHasFlaw circuit fields words flaw = IsFirstFlaw (EachWord IsFormed fields words)
    (EachWord (IsKnown circuit) fields words) (EachWord (IsFit circuit) fields words)
    (EachWord IsWithin fields words) flaw

-- the text has the form of a quotient below 0
abbrev pub IsNegativeQuotient : List ℕ → Type 0
IsNegativeQuotient text = (num : ℤ) × (den : ℤ) × SpellsQuotient text num den × (num <ℤ pos 0)

-- a text that is no small fraction has this flaw
abbrev pub IsRefusedFor : List ℕ → Flaw → Type 0
IsRefusedFor text flaws.Form = IsNoFraction text
IsRefusedFor text flaws.Large = IsLargeQuotient text
IsRefusedFor text flaw = ⊥

-- the number is below the bound, and above what is as far below 0
abbrev pub IsBetween : (bound number : ℤ) → Type 0
IsBetween bound number = (number <ℤ bound) × (pos 0 <ℤ (number +ℤ bound))

-- what is wrong with a quotient that is to be a number of steps below a bound in size
abbrev pub HasStepsFlaw : (over bound num den : ℤ) → Option Flaw → Type 0
HasStepsFlaw over bound num den flaw = IsFirstFlaw (Unit {0}) (Unit {0})
    ((steps : ℤ) × AreSteps over num den steps)
    ((steps : ℤ) → AreSteps over num den steps
    → (bound ≤ℤ steps → ⊥) × ((steps +ℤ bound) ≤ℤ pos 0 → ⊥)) flaw

-- the names of the circuit's signals, in order
abbrev pub signal_names : Circuit → List (List ℕ)
signal_names circuit = map (signal_name circuit) (range_with_len 0 (length circuit.signals))

-- the number that has that name of so many, or that none has it
abbrev pub IsNumberOf : (name_of : ℕ → List ℕ) (count : ℕ) → List ℕ → Option ℕ → Type 0
IsNumberOf name_of count name None =
    ((number : ℕ) × (number < count) × (name_of number ≡ name)) → ⊥
IsNumberOf name_of count name (Some number) = (number < count) × (name_of number ≡ name)
