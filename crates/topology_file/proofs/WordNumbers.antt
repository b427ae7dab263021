-- The number that a word spells without a sign, as it is read.
use Rattle.std.proofs.Common.{◌≡◌, ◌≤◌, ◌^◌, ℕ, zero, suc, min, ℤ, pos, negsuc, neg_ℤ, nat_abs, ◌≤ℤ◌, of_z, to_z, Bool, if◌then◌else◌, Option, Some, None, List, refl, sym, ap, ◌∙◌, arith}
use mir.Syntax.{w128}
use Rattle.std.proofs.lemmas.Int.{clamps, ints, to_z-of_z}
use Rattle.std.specs.Int.{int_min}
use Rattle.std.specs.Str.Parse.{digits_value}
use Rattle.cts_base.specs.NumberTexts.{IsPlainNumeral, SpellsWhole, is_plain_numeral, kept_size}
use Rattle.cts_base.proofs.OneSpelling.{plain_no_minus}
use Rattle.cts_base.proofs.PlainNumerals.{fails_unless_plain, test_from_plain}
use Rattle.topology_file.specs.Kept.{kept_number}

-- a number as an `i128` holds it
abbrev pub held : ℤ → ℤ
held number = to_z w128 (of_z w128 number)

-- one that is no more than 10^37 in size is held as it is
held_same : (number : ℤ) → nat_abs number ≤ 10 ^ 37 → held number ≡ number
held_same (pos number) small = to_z-of_z w128 (pos number) (omega (arith, ints, small))
held_same (negsuc less) small = to_z-of_z w128 (negsuc less) (omega (arith, ints, small))

-- the lesser of such a number and the greatest `u32`
least_held : (size : ℕ) (number least : ℤ) → size ≤ 10 ^ 37 → number ≡ pos size
    → least ≡ int_min (held number) (pos 4294967295) → nat_abs (held least) ≡ min size 4294967295
least_held size number least small same is =
    let held_is : held number ≡ pos size = ap held same ∙ held_same (pos size) small in
    let least_is : least ≡ pos (min size 4294967295) = omega (arith, ints, clamps, is, held_is) in
    ap (λ n. nat_abs (held n)) least_is
    ∙ ap nat_abs (held_same (pos (min size 4294967295)) (omega arith))

-- a number below 0 is held as such
below_held : (number : ℤ) (size : ℕ) → suc size ≤ 10 ^ 37 → number ≡ negsuc size
    → pos 0 ≤ℤ held number → ⊥
below_held number size small same above =
    let held_is : held number ≡ negsuc size = ap held same ∙ held_same (negsuc size) small in
    omega (arith, ints, held_is, above)

-- what is kept of a word, by whether it is a plain numeral
abbrev kept_of : List ℕ → Bool → Option ℕ
kept_of word plain = if plain then Some (kept_number (digits_value 10 word)) else None

-- nothing of one that isn't
pub other_read : (word : List ℕ) → (IsPlainNumeral word → ⊥)
    → None ≡ kept_of word (is_plain_numeral word)
other_read word other = sym (ap (kept_of word) (fails_unless_plain word other))

module _ (word : List ℕ) (number : ℤ) where
  -- a number below 0 isn't that of a plain numeral
  pub below_read : (value : ℤ) → SpellsWhole word value → number ≡ kept_size value
      → (pos 0 ≤ℤ held number → ⊥) → None ≡ kept_of word (is_plain_numeral word)
  below_read (pos value) spells kept below = absurd (below (omega (
    arith,
    ints,
    ap held kept ∙ held_same (pos (min value (10 ^ 37))) (omega arith),
  )))
  below_read (negsuc less) spells kept below =
      other_read word (λ plain. plain_no_minus word plain spells.0)

  -- any other is that of the word's digits
  pub plain_read : (value least : ℤ) → SpellsWhole word value → number ≡ kept_size value
      → pos 0 ≤ℤ held number → least ≡ int_min (held number) (pos 4294967295)
      → Some (nat_abs (held least)) ≡ kept_of word (is_plain_numeral word)
  plain_read (pos value) least spells kept above is =
      ap Some (least_held (min value (10 ^ 37)) number least (omega arith) kept is
      ∙ omega (arith, spells.1))
      ∙ sym (ap (kept_of word) (test_from_plain word spells.0))
  plain_read (negsuc less) least spells kept above is = at (min (suc less) (10 ^ 37)) refl where
    at : (size : ℕ) → min (suc less) (10 ^ 37) ≡ size
        → Some (nat_abs (held least)) ≡ kept_of word (is_plain_numeral word)
    at zero none = absurd (omega arith)
    at (suc size) some = absurd (below_held number size (omega arith)
        (kept ∙ ap (λ n. neg_ℤ (pos n)) some) above)
