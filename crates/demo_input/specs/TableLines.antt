-- The delay table of a demonstration, in TOML, with delays in ticks. Its numbers are this project's
-- choice.
use Rattle.std.specs.Prelude.{ℕ, List, [], ◌∷◌, ◌++◌, codes}
use Rattle.demo_input.specs.Lines.{ended_lines}

-- the wire's delay for a length unit, the source, and the delays and times of registers
abbrev pub common_lines : List (List ℕ)
common_lines =
    codes "[wire]" ∷ codes "delay = \"1/10\"" ∷ codes "[source]" ∷ codes "place = \"CLK\""
    ∷ codes "[register]" ∷ codes "setup = 1" ∷ codes "hold = 1" ∷ codes "least = 1"
    ∷ codes "greatest = 2" ∷ []

-- the delays of each kind of gate in the netlist
abbrev pub gate_lines : List (List ℕ)
gate_lines =
    codes "[gate.NAND]" ∷ codes "least = 2" ∷ codes "greatest = 4"
    ∷ codes "[gate.XOR]" ∷ codes "least = 3" ∷ codes "greatest = 9"
    ∷ codes "[gate.BUFF]" ∷ codes "least = 1" ∷ codes "greatest = 2"
    ∷ codes "[gate.OR]" ∷ codes "least = 2" ∷ codes "greatest = 4"
    ∷ codes "[gate.AND]" ∷ codes "least = 1" ∷ codes "greatest = 3" ∷ []

-- there is no floor for the period
unfoldable pub table_text : List ℕ
table_text = ended_lines (common_lines ++ gate_lines)
