-- The entries of a text by lines: the words of each line that isn't blank, its comment cut off.
-- Comments and words are those of the ISCAS'89 and Bookshelf formats.
use Rattle.std.specs.Prelude.{ℕ, Bool, not, ◌==◌, List, map, length, filter}
use Rattle.cts_base.specs.Lines.{lines_of}
use Rattle.cts_base.specs.Words.{words_of, before_hash}

-- the words of a line, its comment cut off
abbrev pub words_in : List ℕ → List (List ℕ)
words_in line = words_of (before_hash line)

-- there is a word, as in each line that isn't blank
abbrev pub has_words : List (List ℕ) → Bool
has_words words = not (length words == 0)

-- the words of each line that has some, in order
abbrev pub entries_in : List (List ℕ) → List (List (List ℕ))
entries_in lines = filter has_words (map words_in lines)

-- the entries of a text
abbrev pub entries_of : List ℕ → List (List (List ℕ))
entries_of text = entries_in (lines_of text)
