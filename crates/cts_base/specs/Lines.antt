-- The lines of a text: it is cut at each line feed, and a carriage return before one, or before the
-- end of the text, belongs to the line's end. The ISCAS'89 and Bookshelf files are texts of such
-- lines.
use Rattle.std.specs.Prelude.{ℕ, Bool, List, [], ◌∷◌, length, map, ◌==◌, if◌then◌else◌}
use Rattle.std.specs.List.{slice_split, enumerate_from}
use Rattle.std.specs.Str.Lines.{strip_carriage_return}

-- the byte that ends a line
abbrev pub is_line_feed : ℕ → Bool
is_line_feed byte = byte == 10

-- what stands after the last line feed is a line only if there is anything
abbrev pub without_empty_last : List (List ℕ) → List (List ℕ)
without_empty_last [] = []
without_empty_last (part ∷ []) = if length part == 0 then [] else part ∷ []
without_empty_last (part ∷ next ∷ more) = part ∷ without_empty_last (next ∷ more)

-- the lines of a text, in order, without their ends
abbrev pub lines_of : List ℕ → List (List ℕ)
lines_of text = map strip_carriage_return (without_empty_last (slice_split is_line_feed text))

-- each line after its number; the first line has the number 1
abbrev pub numbered_lines : List ℕ → List (ℕ × List ℕ)
numbered_lines text = enumerate_from 1 (lines_of text)
