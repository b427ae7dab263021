-- Words of at most four digits, read as numbers.
use Rattle.command_line.proofs.Vocabulary.{◌≡◌, ◌<◌, ◌≤◌, ◌&&◌, ℕ, suc, zero, nat_le, true, false, not, true≢false, [], ◌∷◌, length, Result, Ok, Err, refl, sym, ap, ◌∙◌, arith, list_all, all_ascii_digits, leb-true, lt-leb, ne_eqb, Word, numeral_value, is_number_within, is_value, is_file_name}
use Rattle.std.specs.Char.{is_ascii_digit}
use Rattle.std.specs.Int.{IsInRange}
use Rattle.std.specs.Str.Parse.{ParsesUnsigned}
use Rattle.std.proofs.lemmas.Str.Parse.{IsNumeralModel, numerals_by_value, tells_all_ascii_digits, parse_digits, parse_gives, digits_value_short, not_in_digits}
use Rattle.command_line.specs.declared.table.ValueKind.{ValueKind}
use Rattle.command_line.specs.declared.table.ValueKind.TheVariants.{File, Registers, Seed, Period}
use Rattle.command_line.proofs.GivenOptions.{both}
use Rattle.command_line.proofs.PeriodWords.{period_first}

-- bytes that are all digits, tested one by one
all_digits : (word : Word) → list_all is_ascii_digit word ≡ all_ascii_digits word
all_digits [] = refl
all_digits (byte ∷ bytes) = ap (λ rest. is_ascii_digit byte && rest) (all_digits bytes)

-- that test finds decimal numerals, whose value is the number that they stand for
pub numerals : IsNumeralModel (λ word. all_ascii_digits word ≡ true) numeral_value
numerals = numerals_by_value (λ word. all_ascii_digits word ≡ true) tells_all_ascii_digits

module _ (least greatest : ℕ) (word : Word) where
  -- at most four digits are read as a number, unless there are none
  pub unread : {E : Type 0} (error : E)
      → list_all is_ascii_digit word ≡ true → length word ≤ 4
      → ParsesUnsigned 32 10 word (Err error) → is_number_within least greatest word ≡ false
  unread error each short reads = at (length word) refl
    where
      digits : all_ascii_digits word ≡ true
      digits = sym (all_digits word) ∙ each

      small : numeral_value word < 10000
      small = digits_value_short numerals word 4 digits short

      at : (long : ℕ) → length word ≡ long → is_number_within least greatest word ≡ false
      at zero is = rw (lt-leb 1 (length word) (omega (arith, is))) refl
      at (suc less) is =
          absurd (parse_digits numerals 32 word (Err error) reads digits
          (omega (arith, is), omega (arith, small)))

  module _ (passes : is_number_within least greatest word ≡ true) where
    -- such a number has one to four digits
    pub few_digits : (1 ≤ length word) × (length word ≤ 4) × (all_ascii_digits word ≡ true)
    few_digits =
        let bounds = nat_le least (numeral_value word) && nat_le (numeral_value word) greatest in
        let digits = all_ascii_digits word && bounds in
        let some = both (nat_le 1 (length word)) (nat_le (length word) 4 && digits) passes in
        let short = both (nat_le (length word) 4) digits some.1 in (
          leb-true 1 (length word) some.0,
          leb-true (length word) 4 short.0,
          (both (all_ascii_digits word) bounds short.1).0,
        )

    -- so it is what the word is parsed as
    pub number_parsed : {E : Type 0} (read : Result ℕ E) → ParsesUnsigned 32 10 word read
        → read ≡ Ok (numeral_value word)
    number_parsed read reads =
        let (some, short, digits) = few_digits in
        let small = digits_value_short numerals word 4 digits short in
        parse_gives numerals 32 word read reads digits some (omega (arith, small))

-- and it begins with no `-`
number_first : (least greatest : ℕ) (word : Word) → is_number_within least greatest word ≡ true
    → is_file_name word ≡ true
number_first least greatest [] passes = absurd (true≢false (sym passes))
number_first least greatest (byte ∷ bytes) passes =
    let word = byte ∷ bytes in
    let (some, short, digits) = few_digits least greatest word passes in
    let no_hyphen : IsInRange 48 57 45 → ⊥ = λ within. omega (arith, within.0) in
    ap not (ne_eqb byte 45 (not_in_digits numerals word 45 digits no_hyphen 0 (omega arith)))

-- nor does any value
pub value_first : (kind : ValueKind) (value : Word) → is_value kind value ≡ true
    → is_file_name value ≡ true
value_first File value passes = passes
value_first Registers value passes = number_first 2 1000 value passes
value_first Seed value passes = number_first 0 999 value passes
value_first Period value passes = period_first value passes
