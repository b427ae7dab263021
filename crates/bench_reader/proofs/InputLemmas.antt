-- The names of a list of inputs, and how they stand among its tokens.
use Rattle.bench_reader.proofs.Vocabulary.{ℕ, suc, if◌then◌else◌, ◌≡◌, ◌≤◌, Bool, true, false, List, [], ◌∷◌, length, Option, Some, None, IfSome, refl, ap, arith, option_map, is_blank, is_name_byte, Token, Word, Close, Comma, begins_with_name_byte, mark_of, onto_word, tokens_of, inputs_of, more_inputs_of, token_words}

-- a name before the words
onto_words : (name : List ℕ) (words : List (List ℕ)) (more : Option (List (List ℕ)))
    → IfSome more (λ names. names ≡ words)
    → IfSome (option_map (λ names. name ∷ names) more) (λ names. names ≡ name ∷ words)
onto_words name words None are = tt
onto_words name words (Some names) are = ap (λ l. name ∷ l) are

-- the names after a name are the words there
more_inputs_are_words : (tokens : List Token)
    → IfSome (more_inputs_of tokens) (λ names. names ≡ token_words tokens)
more_inputs_are_words (Close ∷ []) = refl
more_inputs_are_words (Comma ∷ Word name ∷ rest) =
    onto_words name (token_words rest) (more_inputs_of rest) (more_inputs_are_words rest)
more_inputs_are_words _ = tt

-- the names of a list are its words
pub inputs_are_words : (tokens : List Token)
    → IfSome (inputs_of tokens) (λ names. names ≡ token_words tokens)
inputs_are_words (Close ∷ []) = refl
inputs_are_words (Word name ∷ rest) =
    onto_words name (token_words rest) (more_inputs_of rest) (more_inputs_are_words rest)
inputs_are_words _ = tt

-- a byte put onto a word makes at most one more token
onto_word_len : (byte : ℕ) (joined : Bool) (tokens : List Token)
    → length (onto_word byte joined tokens) ≤ suc (length tokens)
onto_word_len byte true (Word bytes ∷ tokens) = omega arith
onto_word_len byte _ tokens = omega arith

-- a line has no more tokens than bytes
pub tokens_len : (line : List ℕ) → length (tokens_of line) ≤ length line
tokens_len [] = omega arith
tokens_len (byte ∷ line) = at (is_name_byte byte) (is_blank byte) (tokens_len line)
  where
    at : (n b : Bool) → length (tokens_of line) ≤ length line
        → length (if n then onto_word byte (begins_with_name_byte line)
        (tokens_of line) else if b then tokens_of line else mark_of byte ∷ tokens_of line)
        ≤ length (byte ∷ line)
    at true b few = omega (arith, onto_word_len byte (begins_with_name_byte line) (tokens_of line))
    at false true few = omega arith
    at false false few = omega arith
