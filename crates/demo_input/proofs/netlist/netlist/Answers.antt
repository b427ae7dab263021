use Rattle.std.proofs.Common.{ℕ, length, length-append, ap, arith}
use Rattle.demo_input.proofs.LineLengths.{first_gates_within, registers_within, second_gates_within}
use Rattle.demo_input.proofs.netlist.netlist.Goals as goal

pub returns-clause-short : goal.returns-clause-short
returns-clause-short c =
    let few = c.requires.few in
    omega (
      arith,
      length-append {A = ℕ},
      ap length c.from_vec.ensures,
      ap length c.in_ok-extend_from_slice.ensures.items,
      ap length c.in_ok-push_registers.ensures,
      ap length c.in_ok-push_first_gates.ensures,
      ap length c.in_ok-push_second_gates.ensures,
      registers_within c.args.registers few,
      first_gates_within c.args.registers c.args.seed few,
      second_gates_within c.args.registers few,
    )
