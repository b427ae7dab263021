-- Whole numbers, quotients and fractions as this project's own texts spell them: `0`, `-13`,
-- `3/2`. Texts may be of any length, so the digits are determined by the number that they write:
-- std's `decimal` keeps the last 64 digits. The forms are this project's choice.
use Rattle.std.specs.Prelude.{◌≡◌, ℕ, suc, ◌^◌, min, Bool, not, ◌==◌, ◌&&◌, ◌||◌, IsTrue, ◌⊎◌, List, ◌∷◌, ◌++◌, length, drop, slice_index, ℤ, pos, negsuc, neg_ℤ, ◌≤ℤ◌}
use Rattle.std.specs.Char.{is_ascii_digit}
use Rattle.std.specs.List.{list_all}
use Rattle.std.specs.Str.Parse.{IsNumeral, digits_value, starts_with_minus}
use Rattle.cts_base.specs.Fractions.{IsBelow, IsLowest}
use Rattle.cts_base.specs.declared.number.NumberFault.{NumberFault}
use Rattle.cts_base.specs.declared.number.NumberFault.TheVariants.{NotNumber, TooFine, TooLarge}

-- the byte `/`
abbrev pub is_slash : ℕ → Bool
is_slash byte = byte == 47

-- one digit or more, and the first is no `0` unless it stands alone
abbrev pub IsPlainNumeral : List ℕ → Type 0
IsPlainNumeral digits = IsNumeral 10 digits × (slice_index digits 0 ≡ 48 → length digits ≡ 1)

-- the same as a test
abbrev pub is_plain_numeral : List ℕ → Bool
is_plain_numeral digits =
    not (length digits == 0) && list_all is_ascii_digit digits
    && (not (slice_index digits 0 == 48) || (length digits == 1))

-- the digits spell the number
abbrev pub SpellsSize : List ℕ → ℕ → Type 0
SpellsSize digits number = IsPlainNumeral digits × (digits_value 10 digits ≡ number)

-- the text spells this whole number: its digits, after a `-` where it is below 0
abbrev pub SpellsWhole : List ℕ → ℤ → Type 0
SpellsWhole text (pos number) = SpellsSize text number
SpellsWhole text (negsuc less) =
    IsTrue (starts_with_minus text) × SpellsSize (drop 1 text) (suc less)

-- the text spells both numbers, with a `/` between them
abbrev pub SpellsOver : List ℕ → (num den : ℤ) → Type 0
SpellsOver text num den =
    (prefix : List ℕ) × (back : List ℕ) × (text ≡ prefix ++ 47 ∷ back) × SpellsWhole prefix num
    × SpellsWhole back den

-- the text has the form of a quotient of these, whether or not in lowest terms: `n`, or `n/d`
-- with d at least 2
abbrev pub SpellsQuotient : List ℕ → (num den : ℤ) → Type 0
SpellsQuotient text num den =
    ((den ≡ pos 1) × SpellsWhole text num) ⊎ ((pos 2 ≤ℤ den) × SpellsOver text num den)

-- the number, and where its size is 10^37 or more that bound with its sign
abbrev pub kept_size : ℤ → ℤ
kept_size (pos number) = pos (min number (10 ^ 37))
kept_size (negsuc less) = neg_ℤ (pos (min (suc less) (10 ^ 37)))

-- both numbers are below 10^37 in size
abbrev pub HaveSmallSizes : (num den : ℤ) → Type 0
HaveSmallSizes num den = IsBelow (10 ^ 37) num × IsBelow (10 ^ 37) den

-- the text has the form of a quotient, and one of its numbers is 10^37 or more in size
abbrev pub IsLargeQuotient : List ℕ → Type 0
IsLargeQuotient text =
    (num : ℤ) × (den : ℤ) × SpellsQuotient text num den × ¬ (HaveSmallSizes num den)

-- the text hasn't the form of a quotient, or is a small one that isn't in lowest terms
abbrev pub IsNoFraction : List ℕ → Type 0
IsNoFraction text =
    ((num den : ℤ) → ¬ (SpellsQuotient text num den))
    ⊎ ((num : ℤ) × (den : ℤ) × SpellsQuotient text num den × HaveSmallSizes num den
    × ¬ (IsLowest num den))

-- why a text is refused as a fraction
abbrev pub RefusesFraction : List ℕ → NumberFault → Type 0
RefusesFraction text NotNumber = IsNoFraction text
RefusesFraction text TooFine = ⊥
RefusesFraction text TooLarge = IsLargeQuotient text
