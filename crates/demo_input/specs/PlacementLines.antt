-- The placement of a demonstration, in the Bookshelf format. Where its nodes stand is this
-- project's choice.
use Rattle.std.specs.Prelude.{ℕ, ◌+◌, ◌*◌, ◌%◌, List, [], ◌∷◌, ◌++◌, codes, decimal}
use Rattle.demo_input.specs.Lines.{lines_for_each, ended_lines}
use Rattle.demo_input.specs.Names.{register_output}

-- a register stands at whole coordinates below 1000 length units, which the seed moves
abbrev pub place_line : (seed register : ℕ) → List ℕ
place_line seed register =
    register_output register ++ codes " " ++ decimal ((37 * register + 11 * seed) % 1000)
    ++ codes " "
    ++ decimal ((91 * register + 17 * seed) % 1000) ++ codes " : N"

-- the header, the registers, and the source in the middle
abbrev pub placement_lines : (registers seed : ℕ) → List (List ℕ)
placement_lines registers seed =
    codes "UCLA pl 1.0" ∷ lines_for_each (place_line seed) registers
    ++ codes "CLK 500 500 : N /FIXED" ∷ []

-- the bytes of the placement
unfoldable pub placement_text : (registers seed : ℕ) → List ℕ
placement_text registers seed = ended_lines (placement_lines registers seed)
