-- What is read of a quotient's text, at its first slash or without one.
use Rattle.cts_base.proofs.Vocabulary.{◌≡◌, ◌<◌, ◌+◌, ℕ, suc, zero, ℤ, pos, ◌≤ℤ◌, true, false, Option, Some, None, IfSome, IsNone, inl, inr, List, [], ◌∷◌, ◌++◌, take, drop, get_or, length, refl, sym, ap, ◌∙◌, subst, arith, drop-cons, position, nat_tests, fails_before_first, take-length, take-append-drop, is_slash, SpellsWhole, SpellsQuotient, kept_size}
use Rattle.std.proofs.lemmas.List.Quantifiers.{position-Some}
use Rattle.cts_base.specs.declared.number.quotient.Quotient.{Quotient}
use Rattle.cts_base.proofs.OneNumberText.{HasNoSlash, one_split, slash_differs}
use Rattle.cts_base.proofs.OneSpelling.{whole_no_slash}
use Rattle.cts_base.proofs.Places.{place_of_None}

-- ---- the first slash

-- bytes none of which passes the test for a slash
no_slash_before : (text : List ℕ) (i : ℕ)
    → ((k : ℕ) → k < i → is_slash (get_or text k 0) ≡ false) → HasNoSlash (take i text)
no_slash_before text zero fails = tt
no_slash_before [] (suc i) fails = tt
no_slash_before (byte ∷ bytes) (suc i) fails = (
  (λ is. let first = fails 0 (omega arith) in slash_passes byte is first),
  no_slash_before bytes i (λ k less. fails (suc k) (omega arith)),
)
  where
    slash_passes : (b : ℕ) → b ≡ 47 → is_slash b ≡ false → ⊥
    slash_passes b is fails = grind (arith, nat_tests)

-- at its first slash a text falls into two, and the first has none
pub split_at_slash : (text : List ℕ) (i : ℕ) → position is_slash text ≡ Some i
    → (text ≡ take i text ++ 47 ∷ drop (i + 1) text) × HasNoSlash (take i text)
split_at_slash text i found =
    let at = position-Some is_slash text i 0 found in (
      sym (take-append-drop i text)
          ∙ ap (λ rest. take i text ++ rest) (drop-cons text i 0 at.0
          ∙ (λ j. slash_is (get_or text i 0) at.1 j ∷ drop (more i j) text)),
      no_slash_before text i at.2,
    )
  where
    slash_is : (b : ℕ) → is_slash b ≡ true → b ≡ 47
    slash_is b passes = grind (arith, nat_tests)

    more : (n : ℕ) → suc n ≡ n + 1
    more n = omega arith

-- and a text without a first has none at all
pub no_slash_at_all : (text : List ℕ) → position is_slash text ≡ None → HasNoSlash text
no_slash_at_all text none =
    let end = place_of_None is_slash text none in
    subst HasNoSlash (take-length text) (no_slash_before text (length text)
    (λ k less. fails_before_first is_slash text k 0 (omega (arith, less, end))))

-- ---- quotients

-- a quotient that the text spells, its numbers kept at the bound
abbrev pub IsQuotientRead : List ℕ → Quotient → Type 0
IsQuotientRead text quotient =
    (num : ℤ) × (den : ℤ) × SpellsQuotient text num den × (quotient.num ≡ kept_size num)
    × (quotient.den ≡ kept_size den)

-- where none is spelled, none is read
pub none_read : (text : List ℕ) (r : Option Quotient) → IfSome r (IsQuotientRead text)
    → ((num den : ℤ) → SpellsQuotient text num den → ⊥) → IsNone r
none_read text None some none = refl
none_read text (Some quotient) some none = absurd (none some.0 some.1 some.2)

-- two numbers with a slash between them
pub read_split : (text prefix back : List ℕ) (r : Option Quotient) → text ≡ prefix ++ 47 ∷ back
    → IfSome r (λ quotient. (above : ℤ) × (below : ℤ) × SpellsWhole prefix above
    × SpellsWhole back below × (pos 2 ≤ℤ below) × (quotient.num ≡ kept_size above)
    × (quotient.den ≡ kept_size below)) → IfSome r (IsQuotientRead text)
read_split text prefix back None split read = tt
read_split text prefix back (Some quotient) split (above, below, num, den, some, same, same') =
    (above, below, inr (some, (prefix, back, split, num, den)), same, same')

pub none_split : (text prefix back : List ℕ) (r : Option Quotient) → text ≡ prefix ++ 47 ∷ back
    → HasNoSlash prefix → (IsNone r → (above below : ℤ) → SpellsWhole prefix above
    → SpellsWhole back below → pos 2 ≤ℤ below → ⊥)
    → IsNone r → (num den : ℤ) → SpellsQuotient text num den → ⊥
none_split text prefix back r split first none is num den (inl one) =
    slash_differs text prefix back (whole_no_slash text num one.1) split
none_split text prefix back r split first none is num den (inr (some, over)) =
    let (prefix', back', split', above, below) = over in
    let both = one_split prefix prefix' back back' first (whole_no_slash prefix' num above)
    (sym split ∙ split') in
    none is num den (subst (λ t. SpellsWhole t num) (sym both.0) above)
    (subst (λ t. SpellsWhole t den) (sym both.1) below) some

-- one number
pub read_one : (text : List ℕ) (r : Option Quotient)
    → IfSome r (λ quotient. (num : ℤ) × SpellsWhole text num × (quotient.num ≡ kept_size num)
    × (quotient.den ≡ pos 1)) → IfSome r (IsQuotientRead text)
read_one text None read = tt
read_one text (Some quotient) (num, spells, same, one) =
    (num, pos 1, inl (refl, spells), same, one)

pub none_one : (text : List ℕ) (r : Option Quotient) → HasNoSlash text
    → (IsNone r → (num : ℤ) → SpellsWhole text num → ⊥)
    → IsNone r → (num den : ℤ) → SpellsQuotient text num den → ⊥
none_one text r first none is num den (inl one) = none is num one.1
none_one text r first none is num den (inr (some, (prefix, back, split, above, below))) =
    slash_differs text prefix back first split
