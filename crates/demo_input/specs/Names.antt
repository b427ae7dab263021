-- The names of the signals of a demonstration netlist. This project.
use Rattle.std.specs.Prelude.{ℕ, List, ◌++◌, codes, decimal}

-- a letter and a number
abbrev pub numbered_name : (letter : List ℕ) → (number : ℕ) → List ℕ
numbered_name letter number = letter ++ decimal number

-- the output of a register
abbrev pub register_output : ℕ → List ℕ
register_output register = numbered_name (codes "r") register

-- the output of a register's first gate, which reads the register
abbrev pub first_gate_output : ℕ → List ℕ
first_gate_output register = numbered_name (codes "a") register

-- the output of its second gate, which reads the first
abbrev pub second_gate_output : ℕ → List ℕ
second_gate_output register = numbered_name (codes "b") register
