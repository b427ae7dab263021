-- The words of a line, and the part of it that is no comment, as the ISCAS'89 and Bookshelf formats
-- have them.
use Rattle.std.specs.Prelude.{ℕ, Bool, not, List, length, filter, ◌==◌, ◌||◌}
use Rattle.std.specs.List.{slice_split, before_first}

-- a space or a tab
abbrev pub is_blank : ℕ → Bool
is_blank byte = (byte == 32) || (byte == 9)

-- any other byte
abbrev pub is_not_blank : ℕ → Bool
is_not_blank byte = not (is_blank byte)

abbrev pub is_not_empty : List ℕ → Bool
is_not_empty bytes = not (length bytes == 0)

-- the longest runs of bytes other than space and tab, in order
abbrev pub words_of : List ℕ → List (List ℕ)
words_of line = filter is_not_empty (slice_split is_blank line)

-- the byte `#`, from which on a line is a comment
abbrev pub is_hash : ℕ → Bool
is_hash byte = byte == 35

-- the part of a line before its first `#`
abbrev pub before_hash : List ℕ → List ℕ
before_hash line = before_first is_hash line
