-- Lines that are numbered, and the text that has some lines. This project.
use Rattle.std.specs.Prelude.{ℕ, List, [], ◌∷◌, ◌++◌, map}
use Rattle.std.specs.List.{flat_map, range_with_len}

-- a line with the line feed that ends it
abbrev pub ended : List ℕ → List ℕ
ended line = line ++ 10 ∷ []

-- the bytes of some lines, each ended by a line feed
abbrev pub ended_lines : List (List ℕ) → List ℕ
ended_lines lines = flat_map ended lines

-- a line for each number below that
abbrev pub lines_for_each : (line_at : ℕ → List ℕ) → ℕ → List (List ℕ)
lines_for_each line_at count = map line_at (range_with_len 0 count)
