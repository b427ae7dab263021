-- The names in a list of inputs that has its form.
use Rattle.std.specs.Prelude.{ℕ, List, Option, Some, None}
use Rattle.std.specs.List.{filter_map}
use Rattle.cts_model.specs.Vocabulary.{Token, Word}

-- the bytes of a word
abbrev pub word_in : Token → Option (List ℕ)
word_in (Word bytes) = Some bytes
word_in _ = None

-- the words among tokens
abbrev pub token_words : List Token → List (List ℕ)
token_words tokens = filter_map word_in tokens
