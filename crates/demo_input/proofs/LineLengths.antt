-- How many bytes the lines have where there are at most 1000 registers.
use Rattle.std.proofs.Common.{ℕ, zero, suc, ◌<◌, ◌≤◌, ◌+◌, ◌-◌, ◌*◌, ◌%◌, ◌==◌, Bool, true, false, cond, List, [], ◌∷◌, map, length, codes, decimal, arith, length-append}
use Rattle.std.specs.List.{range_with_len}
use Rattle.std.proofs.lemmas.Fmt.{length-decimal-le}
use Rattle.demo_input.specs.Lines.{ended, lines_for_each, ended_lines}
use Rattle.demo_input.specs.NetlistLines.{buffer_line, first_gate_line, mixing_line, flip_flop_line, second_gate_line}
use Rattle.demo_input.specs.PlacementLines.{place_line}

-- the text of so many lines that are shorter than a bound
pub text_within : (line_at : ℕ → List ℕ) (most start count : ℕ)
    → ((number : ℕ) → number < start + count → length (line_at number) < most)
    → length (ended_lines (map line_at (range_with_len start count))) ≤ count * most
text_within line_at most start zero each = omega arith
text_within line_at most start (suc count) each =
    let here = each start (omega arith) in
    let rest = text_within line_at most (start + 1) count
    (λ number below. each number (omega arith)) in
    omega (
      arith,
      length-append
          (ended (line_at start)) (ended_lines (map line_at (range_with_len (start + 1) count))),
      length-append (line_at start) (10 ∷ []),
    )

-- a number below 1000 has at most three digits
three_digits : (number : ℕ) → number < 1000 → length (decimal number) ≤ 3
three_digits number small = length-decimal-le 3 number (omega arith) small (omega arith)

-- the line of a register in the netlist
register_line_within : (registers register : ℕ) → registers ≤ 1000 → register < registers
    → length (flip_flop_line registers register) < 17
register_line_within registers register few within =
    simp length-append (omega (
      arith,
      three_digits register (omega arith),
      three_digits ((register + registers - 1) % registers) (omega arith),
    ))

-- the line of a first gate
first_gate_line_within : (registers seed register : ℕ) → registers ≤ 1000 → register < registers
    → length (first_gate_line registers seed register) < 24
first_gate_line_within registers seed register few within =
    simp length-append (omega (
      arith,
      three_digits register (omega arith),
      three_digits ((7 * register + seed) % registers) (omega arith),
    ))

-- the line of a second gate that reads the primary input
mixing_line_within : (kind : List ℕ) (register : ℕ) → length kind ≤ 3 → register < 1000
    → length (mixing_line kind register) < 20
mixing_line_within kind register short small =
    simp length-append (omega (arith, three_digits register small))

-- the line of a buffer
buffer_line_within : (register : ℕ) → register < 1000 → length (buffer_line register) < 20
buffer_line_within register small =
    simp length-append (omega (arith, three_digits register small))

-- the line of a second gate, whatever its kind is
second_gate_line_within : (register : ℕ) → register < 1000
    → length (second_gate_line register) < 20
second_gate_line_within register small =
    at (register % 4 == 0) (register % 4 == 1) (register % 4 == 2)
  where
    at : (first second third : Bool) → length (cond first (mixing_line (codes "XOR") register)
        (cond second (buffer_line register) (cond third (mixing_line (codes "OR") register)
        (mixing_line (codes "AND") register)))) < 20
    at true second third = mixing_line_within (codes "XOR") register (omega arith) small
    at false true third = buffer_line_within register small
    at false false true = mixing_line_within (codes "OR") register (omega arith) small
    at false false false = mixing_line_within (codes "AND") register (omega arith) small

-- the line of a register in the placement
place_line_within : (seed register : ℕ) → register < 1000 → length (place_line seed register) < 17
place_line_within seed register small =
    simp length-append (omega (
      arith,
      three_digits register small,
      three_digits ((37 * register + 11 * seed) % 1000) (omega arith),
      three_digits ((91 * register + 17 * seed) % 1000) (omega arith),
    ))

-- all registers in the netlist
pub registers_within : (registers : ℕ) → registers ≤ 1000
    → length (ended_lines (lines_for_each (flip_flop_line registers) registers)) ≤ registers * 17
registers_within registers few =
    text_within (flip_flop_line registers) 17 0 registers
    (λ register within. register_line_within registers register few (omega arith))

-- all first gates
pub first_gates_within : (registers seed : ℕ) → registers ≤ 1000
    → length (ended_lines (lines_for_each (first_gate_line registers seed) registers))
    ≤ registers * 24
first_gates_within registers seed few =
    text_within (first_gate_line registers seed) 24 0 registers
    (λ register within. first_gate_line_within registers seed register few (omega arith))

-- all second gates
pub second_gates_within : (registers : ℕ) → registers ≤ 1000
    → length (ended_lines (lines_for_each second_gate_line registers)) ≤ registers * 20
second_gates_within registers few =
    text_within second_gate_line 20 0 registers
    (λ register within. second_gate_line_within register (omega arith))

-- all registers in the placement
pub places_within : (registers seed : ℕ) → registers ≤ 1000
    → length (ended_lines (lines_for_each (place_line seed) registers)) ≤ registers * 17
places_within registers seed few =
    text_within (place_line seed) 17 0 registers
    (λ register within. place_line_within seed register (omega arith))
