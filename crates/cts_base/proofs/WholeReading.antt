-- What is read of a whole number's text, after its sign or without one.
use Rattle.cts_base.proofs.Vocabulary.{◌≡◌, ◌≤◌, ◌^◌, ℕ, suc, zero, min, ℤ, pos, negsuc, neg_ℤ, true, false, Option, Some, None, IfSome, IsNone, List, drop, refl, sym, ◌∙◌, arith, digits_value, starts_with_minus, IsPlainNumeral, SpellsWhole, kept_size}
use Rattle.cts_base.proofs.OneSpelling.{plain_no_minus}

-- a number that the text spells, kept at the bound
abbrev pub IsWholeRead : List ℕ → ℤ → Type 0
IsWholeRead text number = (value : ℤ) × SpellsWhole text value × (number ≡ kept_size value)

-- where no number is spelled, none is read
pub none_read : (text : List ℕ) (r : Option ℤ) → IfSome r (IsWholeRead text)
    → ((value : ℤ) → SpellsWhole text value → ⊥) → IsNone r
none_read text None some none = refl
none_read text (Some number) some none = absurd (none some.0 some.1)

-- after a minus
pub read_below : (text : List ℕ) (r : Option ℤ) → starts_with_minus text ≡ true
    → IfSome r (λ number. IsPlainNumeral (drop 1 text) × (1 ≤ digits_value 10 (drop 1 text))
    × (number ≡ neg_ℤ (pos (min (digits_value 10 (drop 1 text)) (10 ^ 37)))))
    → IfSome r (IsWholeRead text)
read_below text None minus read = tt
read_below text (Some number) minus read = at (digits_value 10 (drop 1 text)) refl read.1 read.2
  where
    at : (n : ℕ) → digits_value 10 (drop 1 text) ≡ n → 1 ≤ n
        → number ≡ neg_ℤ (pos (min n (10 ^ 37))) → IsWholeRead text number
    at zero is some same = absurd (omega arith)
    at (suc less) is some same = (negsuc less, (minus, (read.0, is)), same)

pub none_below : (text : List ℕ) (r : Option ℤ) → starts_with_minus text ≡ true
    → (IsNone r → IsPlainNumeral (drop 1 text) × (1 ≤ digits_value 10 (drop 1 text)) → ⊥)
    → IsNone r → (value : ℤ) → SpellsWhole text value → ⊥
none_below text r minus none is (pos number) spells = plain_no_minus text spells.0 minus
none_below text r minus none is (negsuc less) spells =
    let size = spells.1.1 in none is (spells.1.0, omega (arith, size))

-- without one
pub read_above : (text : List ℕ) (r : Option ℤ)
    → IfSome r (λ size. IsPlainNumeral text × (size ≡ pos (min (digits_value 10 text) (10 ^ 37))))
    → IfSome r (IsWholeRead text)
read_above text None read = tt
read_above text (Some number) read = (pos (digits_value 10 text), (read.0, refl), read.1)

pub none_above : (text : List ℕ) (r : Option ℤ) → starts_with_minus text ≡ false
    → (IsNone r → IsPlainNumeral text → ⊥) → IsNone r → (value : ℤ) → SpellsWhole text value → ⊥
none_above text r plus none is (pos number) spells = none is spells.0
none_above text r plus none is (negsuc less) spells = differ (sym spells.0 ∙ plus)
  where
    differ : true ≡ false → ⊥
    differ same = cc
