-- The kinds of the ISCAS'89 .bench format and the host: their words, and how many inputs each has.
use Rattle.std.specs.Prelude.{ℕ, Bool, true, false, ◌==◌, ◌&&◌, nat_le, List, Option, Some, None, if◌then◌else◌, codes}
use Rattle.std.specs.Str.{str_eq_ignore_ascii_case}
use Rattle.cts_model.specs.declared.kind.Kind.{Kind}
use Rattle.cts_model.specs.declared.kind.Kind.TheVariants.{And, Nand, Or, Nor, Not, Xor, Xnor, Buff, Input, Dff, Host}

-- the host: one more register, which stands for what is outside of the netlist
abbrev pub is_host : Kind → Bool
is_host Host = true
is_host _ = false

-- a register: a D flip-flop or the host
abbrev pub is_register : Kind → Bool
is_register Dff = true
is_register Host = true
is_register _ = false

-- a primary input
abbrev pub is_input : Kind → Bool
is_input Input = true
is_input _ = false

-- a gate: neither a primary input nor a register
abbrev pub is_gate : Kind → Bool
is_gate Input = false
is_gate Dff = false
is_gate Host = false
is_gate _ = true

-- the place of a gate kind in a table of the eight
abbrev pub place_of : Kind → ℕ
place_of And = 0
place_of Nand = 1
place_of Or = 2
place_of Nor = 3
place_of Not = 4
place_of Xor = 5
place_of Xnor = 6
place_of Buff = 7
place_of _ = 8

-- whether a kind may have so many inputs; the host has as many as there are primary outputs
abbrev pub is_valid : Kind → ℕ → Bool
is_valid Host inputs = true
is_valid Input inputs = inputs == 0
is_valid Dff inputs = inputs == 1
is_valid Not inputs = inputs == 1
is_valid Buff inputs = inputs == 1
is_valid _ inputs = nat_le 1 inputs && nat_le inputs 1024

-- the kind that a word after `=` names, in any ASCII case
abbrev pub kind_of : List ℕ → Option Kind
kind_of word =
    if str_eq_ignore_ascii_case word (codes "AND") then Some And
    else if str_eq_ignore_ascii_case word (codes "NAND") then Some Nand
    else if str_eq_ignore_ascii_case word (codes "OR") then Some Or
    else if str_eq_ignore_ascii_case word (codes "NOR") then Some Nor
    else if str_eq_ignore_ascii_case word (codes "NOT") then Some Not
    else if str_eq_ignore_ascii_case word (codes "XOR") then Some Xor
    else if str_eq_ignore_ascii_case word (codes "XNOR") then Some Xnor
    else if str_eq_ignore_ascii_case word (codes "BUFF") then Some Buff
    else if str_eq_ignore_ascii_case word (codes "BUF") then Some Buff
    else if str_eq_ignore_ascii_case word (codes "DFF") then Some Dff
    else None
