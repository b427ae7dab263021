-- The first word of a line, and the words of what follows it.
use Rattle.cts_base.proofs.Vocabulary.{ℕ, ◌≡◌, ◌<◌, ◌+◌, Bool, true, false, Some, None, List, [], ◌∷◌, length, take, drop, refl, ap, ◌∙◌, sym, arith, subst, get_or, length-take-le, passes_at_first, nat_tests, filter, position_or_len, position}
use Rattle.cts_base.specs.Words.{is_blank, is_not_blank, is_not_empty, words_of}
use Rattle.cts_base.proofs.Places.{place_of_Some, place_of_None, slice_split-cut, slice_split-whole, drop-one_more, drop-cons_then}
use Rattle.std.proofs.Math.ListN.{drop_of_length-le}

-- a blank before makes no word
words_of-blank : (byte : ℕ) (line : List ℕ) → is_blank byte ≡ true
    → words_of (byte ∷ line) ≡ words_of line
words_of-blank byte line blank = rw blank refl

-- blanks before make no word
words_of-after : (line : List ℕ)
    → words_of (drop (position_or_len is_not_blank line) line) ≡ words_of line
words_of-after [] = refl
words_of-after (byte ∷ line) = at (words_of-after line) (is_blank byte) refl
  where
    at : words_of (drop (position_or_len is_not_blank line) line) ≡ words_of line → (b : Bool)
        → is_blank byte ≡ b
        → words_of (drop (position_or_len is_not_blank (byte ∷ line)) (byte ∷ line))
        ≡ words_of (byte ∷ line)
    at after true blank = rw (blank, drop-one_more) after
    at after false blank =
        let none : position_or_len is_not_blank (byte ∷ line) ≡ 0 = rw blank refl in rw none refl

-- what is left begins with no blank
begins-after : (line : List ℕ)
    → position_or_len is_not_blank (drop (position_or_len is_not_blank line) line) ≡ 0
begins-after [] = refl
begins-after (byte ∷ line) = at (begins-after line) (is_blank byte) refl
  where
    at : position_or_len is_not_blank (drop (position_or_len is_not_blank line) line) ≡ 0
        → (b : Bool) → is_blank byte ≡ b → position_or_len is_not_blank
        (drop (position_or_len is_not_blank (byte ∷ line)) (byte ∷ line)) ≡ 0
    at begins true blank = rw (blank, drop-one_more) begins
    at begins false blank = rw (blank, blank) refl

pub words_of-blanks : (line : List ℕ) (start : ℕ) → position is_not_blank line ≡ Some start
    → words_of (drop start line) ≡ words_of line
words_of-blanks line start found =
    rw (← (place_of_Some is_not_blank line start found).0) (words_of-after line)

pub begins-after_blanks : (line : List ℕ) (start : ℕ) → position is_not_blank line ≡ Some start
    → position_or_len is_not_blank (drop start line) ≡ 0
begins-after_blanks line start found =
    rw (← (place_of_Some is_not_blank line start found).0) (begins-after line)

-- blanks alone are no word
pub words_of-all_blank : (line : List ℕ) → position is_not_blank line ≡ None → words_of line ≡ []
words_of-all_blank line none =
    let all : drop (position_or_len is_not_blank line) line ≡ [] =
    drop_of_length-le line (omega (arith, place_of_None is_not_blank line none)) in
    sym (words_of-after line) ∙ rw all refl

-- a part with bytes in it is kept
words-kept : (word : List ℕ) (parts : List (List ℕ)) → 0 < length word
    → filter is_not_empty (word ∷ parts) ≡ word ∷ filter is_not_empty parts
words-kept [] parts some = absurd (omega arith)
words-kept (byte ∷ word) parts some = grind (arith, nat_tests)

-- where a line doesn't begin with a blank, its first blank stands further on
first_blank_further : (byte : ℕ) (line : List ℕ) → position_or_len is_not_blank (byte ∷ line) ≡ 0
    → 0 < position_or_len is_blank (byte ∷ line)
first_blank_further byte line begins = at (is_blank byte) refl
  where
    at : (b : Bool) → is_blank byte ≡ b → 0 < position_or_len is_blank (byte ∷ line)
    at true blank =
        let moved : 1 + position_or_len is_not_blank line ≡ 0 = rw blank at begins in
        absurd (omega arith)
    at false blank = rw blank (omega arith)

-- a word ends at the first blank
pub words_of-cut : (line : List ℕ) (end : ℕ) → position_or_len is_not_blank line ≡ 0
    → 0 < length line → position is_blank line ≡ Some end
    → words_of line ≡ take end line ∷ words_of (drop end line)
words_of-cut [] end begins some found = absurd (omega arith)
words_of-cut (byte ∷ line) end begins some found =
    let at : (position_or_len is_blank (byte ∷ line) ≡ end) × (end < length (byte ∷ line)) =
    place_of_Some is_blank (byte ∷ line) end found in
    let within : end < length (byte ∷ line) = at.1 in
    let blank : is_blank (get_or (byte ∷ line) (position_or_len is_blank (byte ∷ line)) 0) ≡ true =
    passes_at_first is_blank (byte ∷ line) 0 (omega (arith, at.0)) in
    let here : is_blank (get_or (byte ∷ line) end 0) ≡ true =
    subst (λ n. is_blank (get_or (byte ∷ line) n 0) ≡ true) at.0 blank in
    let bytes : 0 < length (take end (byte ∷ line)) =
    omega (arith, first_blank_further byte line begins, at.0, length-take-le end (byte ∷ line)) in
    let rest : drop end (byte ∷ line)
    ≡ get_or (byte ∷ line) end 0 ∷ drop 1 (drop end (byte ∷ line)) =
    drop-cons_then (byte ∷ line) end within in
    rw (slice_split-cut is_blank (byte ∷ line) end found, words-kept _ _ bytes)
    (ap (λ ws. take end (byte ∷ line) ∷ ws)
    (sym (words_of-blank (get_or (byte ∷ line) end 0) (drop 1 (drop end (byte ∷ line))) here)
    ∙ ap words_of (sym rest)))

-- a line with no blank is one word
pub words_of-whole : (line : List ℕ) → position_or_len is_not_blank line ≡ 0 → 0 < length line
    → position is_blank line ≡ None → words_of line ≡ line ∷ []
words_of-whole line begins some whole =
    rw (slice_split-whole is_blank line whole, words-kept line [] some) refl
