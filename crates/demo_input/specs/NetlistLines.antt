-- The netlist of a demonstration, in the format of the ISCAS'89 benchmarks: a ring of registers
-- with two gates from each to the next. Which gates these are and what they read is this project's
-- choice. Registers are numbered from 0.
use Rattle.std.specs.Prelude.{ℕ, ◌+◌, ◌-◌, ◌*◌, ◌%◌, ◌==◌, List, ◌∷◌, ◌++◌, codes, if◌then◌else◌}
use Rattle.demo_input.specs.Lines.{lines_for_each, ended_lines}
use Rattle.demo_input.specs.Names.{first_gate_output, register_output, second_gate_output}

-- a register captures the second gate of the register before it, and before the first stands the
-- last
abbrev pub flip_flop_line : (registers register : ℕ) → List ℕ
flip_flop_line registers register =
    register_output register ++ codes " = DFF("
    ++ second_gate_output ((register + registers - 1) % registers) ++ codes ")"

-- a first gate reads its register and one that the seed moves, which may be the same
abbrev pub first_gate_line : (registers seed register : ℕ) → List ℕ
first_gate_line registers seed register =
    first_gate_output register ++ codes " = NAND(" ++ register_output register ++ codes ", "
    ++ register_output ((7 * register + seed) % registers) ++ codes ")"

-- a second gate of this kind reads the first gate and the primary input
abbrev pub mixing_line : (kind : List ℕ) → (register : ℕ) → List ℕ
mixing_line kind register =
    second_gate_output register ++ codes " = " ++ kind ++ codes "(" ++ first_gate_output register
    ++ codes ", x)"

-- a buffer reads the first gate alone
abbrev pub buffer_line : (register : ℕ) → List ℕ
buffer_line register =
    second_gate_output register ++ codes " = BUFF(" ++ first_gate_output register ++ codes ")"

-- the kinds of the second gates take turns
abbrev pub second_gate_line : (register : ℕ) → List ℕ
second_gate_line register =
    if register % 4 == 0 then mixing_line (codes "XOR") register
    else if register % 4 == 1 then buffer_line register
    else if register % 4 == 2 then mixing_line (codes "OR") register
    else mixing_line (codes "AND") register

-- one primary input, one primary output, the registers, and the gates
abbrev pub netlist_lines : (registers seed : ℕ) → List (List ℕ)
netlist_lines registers seed =
    codes "INPUT(x)" ∷ codes "OUTPUT(r0)"
    ∷ lines_for_each (flip_flop_line registers) registers
    ++ lines_for_each (first_gate_line registers seed) registers
    ++ lines_for_each second_gate_line registers

-- the bytes of the netlist
unfoldable pub netlist_text : (registers seed : ℕ) → List ℕ
netlist_text registers seed = ended_lines (netlist_lines registers seed)
