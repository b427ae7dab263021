use Rattle.std.proofs.Common.{◌<◌, length, rules}
use Rattle.cts_model.specs.Vocabulary.{register_name}
use Rattle.name_set.proofs.NameNumbers.{with_name-next, register_new, registers_few}
use Rattle.name_set.proofs.registers.register_names.Goals as goal

pub insert-requires : goal.insert-requires
insert-requires c =
    let within : c.loop-register.register < length c.args.circuit.now.registers = search rules in
    registers_few c.args.circuit.now c.loop-register.names c.loop-register.register within
    c.loop-register.invariant

pub loop-register-preserved : goal.loop-register-preserved
loop-register-preserved c =
    let within : c.loop-register.register < length c.args.circuit.now.registers = search rules in
    with_name-next (register_name c.args.circuit.now) c.loop-register.register
    c.loop-register.invariant c.register_name.ensures
    (register_new c.args.circuit.now c.loop-register.register within) c.in_ok-insert.ensures.names
