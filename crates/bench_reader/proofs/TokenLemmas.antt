-- The first token of a line, and the tokens of what follows it.
use Rattle.bench_reader.proofs.Vocabulary.{ℕ, suc, ◌≡◌, ◌<◌, ◌+◌, Bool, true, false, List, [], ◌∷◌, length, take, drop, refl, arith, get_or, nat_tests, prefix_len, is_blank, is_name_byte, Word, begins_with_name_byte, tokens_of}

-- a space or a tab is no byte of a name
blank_outside_names : (byte : ℕ) → is_blank byte ≡ true → is_name_byte byte ≡ false
blank_outside_names byte blank = grind (arith, nat_tests)

-- one item further, in what is left
drop-one_more : (n x : ℕ) (xs : List ℕ) → drop (1 + n) (x ∷ xs) ≡ drop n xs
drop-one_more n x xs = let more : 1 + n ≡ suc n = omega arith in rw more refl

-- and in what stands before
take-one_more : (n x : ℕ) (xs : List ℕ) → take (1 + n) (x ∷ xs) ≡ x ∷ take n xs
take-one_more n x xs = let more : 1 + n ≡ suc n = omega arith in rw more refl

-- a blank before makes no token
tokens_of-blank : (byte : ℕ) (line : List ℕ) → is_blank byte ≡ true
    → tokens_of (byte ∷ line) ≡ tokens_of line
tokens_of-blank byte line blank =
    let outside : is_name_byte byte ≡ false = blank_outside_names byte blank in
    rw (outside, blank) refl

-- blanks before make no token
pub tokens_of-after_blanks : (line : List ℕ)
    → tokens_of (drop (prefix_len is_blank line) line) ≡ tokens_of line
tokens_of-after_blanks [] = refl
tokens_of-after_blanks (byte ∷ line) = at (tokens_of-after_blanks line) (is_blank byte) refl
  where
    at : tokens_of (drop (prefix_len is_blank line) line) ≡ tokens_of line → (b : Bool)
        → is_blank byte ≡ b → tokens_of (drop (prefix_len is_blank (byte ∷ line)) (byte ∷ line))
        ≡ tokens_of (byte ∷ line)
    at after true blank = rw (tokens_of-blank byte line blank, blank, drop-one_more) after
    at after false blank =
        let none : prefix_len is_blank (byte ∷ line) ≡ 0 = rw blank refl in rw none refl

-- what is left begins with no blank
pub begins-after_blanks : (line : List ℕ)
    → prefix_len is_blank (drop (prefix_len is_blank line) line) ≡ 0
begins-after_blanks [] = refl
begins-after_blanks (byte ∷ line) = at (begins-after_blanks line) (is_blank byte) refl
  where
    at : prefix_len is_blank (drop (prefix_len is_blank line) line) ≡ 0 → (b : Bool)
        → is_blank byte ≡ b
        → prefix_len is_blank (drop (prefix_len is_blank (byte ∷ line)) (byte ∷ line)) ≡ 0
    at begins true blank = rw (blank, drop-one_more) begins
    at begins false blank = rw (blank, blank) refl

-- where a line doesn't begin with a name's byte, it begins with no run of them
run_ended : (line : List ℕ) → begins_with_name_byte line ≡ false → prefix_len is_name_byte line ≡ 0
run_ended [] ends = refl
run_ended (byte ∷ line) ends = let outside : is_name_byte byte ≡ false = ends in rw outside refl

-- the longest run of a name's bytes before is one word
pub tokens_of-word : (line : List ℕ) → begins_with_name_byte line ≡ true
    → tokens_of line ≡ Word (take (prefix_len is_name_byte line) line)
    ∷ tokens_of (drop (prefix_len is_name_byte line) line)
tokens_of-word [] begins = cc
tokens_of-word (byte ∷ line) begins = at (tokens_of-word line) (begins_with_name_byte line) refl
  where
    at : (begins_with_name_byte line ≡ true
        → tokens_of line ≡ Word (take (prefix_len is_name_byte line) line)
        ∷ tokens_of (drop (prefix_len is_name_byte line) line))
        → (b : Bool) → begins_with_name_byte line ≡ b → tokens_of (byte ∷ line)
        ≡ Word (take (prefix_len is_name_byte (byte ∷ line)) (byte ∷ line))
        ∷ tokens_of (drop (prefix_len is_name_byte (byte ∷ line)) (byte ∷ line))
    at rest true goes_on =
        let name : is_name_byte byte ≡ true = begins in
        rw (name, goes_on, rest goes_on, take-one_more, drop-one_more) refl
    at rest false ends =
        let name : is_name_byte byte ≡ true = begins in rw (name, ends, run_ended line ends) refl

-- a line whose first byte is a name's begins with one
pub begins_with_first : (line : List ℕ) → 0 < length line → is_name_byte (get_or line 0 0) ≡ true
    → begins_with_name_byte line ≡ true
begins_with_first [] some name = absurd (omega arith)
begins_with_first (byte ∷ line) some name = name
