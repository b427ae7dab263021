-- The tokens of a line of the ISCAS'89 .bench format.
use Rattle.std.specs.Prelude.{ℕ, Bool, true, false, ◌==◌, List, [], ◌∷◌, if◌then◌else◌}
use Rattle.cts_base.specs.Words.{is_blank}
use Rattle.cts_model.specs.text.Names.{is_name_byte}

-- a name or a word, a mark, or a byte that belongs nowhere
pub data Token : Type 0 where
  Word : (bytes : List ℕ) → Token
  Open : Token
  Close : Token
  Comma : Token
  Equals : Token
  Stray : Token

-- the token that a byte outside of names is
abbrev pub mark_of : ℕ → Token
mark_of byte =
    if byte == 40 then Open else if byte == 41 then Close else if byte == 44 then Comma
    else if byte == 61 then Equals else Stray

abbrev pub begins_with_name_byte : List ℕ → Bool
begins_with_name_byte [] = false
begins_with_name_byte (byte ∷ line) = is_name_byte byte

-- a byte of a name, before the word that goes on after it, or as a word of its own
abbrev pub onto_word : ℕ → Bool → List Token → List Token
onto_word byte true (Word bytes ∷ tokens) = Word (byte ∷ bytes) ∷ tokens
onto_word byte _ tokens = Word (byte ∷ []) ∷ tokens

-- the longest runs of a name's bytes, and each other byte by itself; spaces and tabs only part them
abbrev pub tokens_of : List ℕ → List Token
tokens_of [] = []
tokens_of (byte ∷ line) =
    if is_name_byte byte then onto_word byte (begins_with_name_byte line) (tokens_of line)
    else if is_blank byte then tokens_of line
    else mark_of byte ∷ tokens_of line
