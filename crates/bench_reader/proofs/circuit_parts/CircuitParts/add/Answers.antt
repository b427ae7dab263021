use Rattle.bench_reader.proofs.Vocabulary.{[], refl, ap, err_from_is_err_and, All-nil, Input, Assign, uses_of, said_by}
use Rattle.cts_model.specs.declared.kind.Kind.TheVariants as kinds
use Rattle.bench_reader.proofs.AddedParts.{blank_denoted, defining_denoted, output_denoted}
use Rattle.bench_reader.proofs.FanIns.{misses_use}
use Rattle.bench_reader.proofs.circuit_parts.CircuitParts.add.Goals as goal

pub returns-in-Blank-clause-denoted : goal.returns-in-Blank-clause-denoted
returns-in-Blank-clause-denoted c =
    λ earlier line form has. blank_denoted c.args.names.now line c.args.self.now has
    (rw c.in-Blank.is at form)

pub returns-in_ok-add_signal-in-Input-clause-denoted :
    goal.returns-in_ok-add_signal-in-Input-clause-denoted
returns-in_ok-add_signal-in-Input-clause-denoted c =
    let denoted = c.in_ok-add_signal-in-Input.ensures in
    λ earlier line form has. defining_denoted c.args.names.now line c.args.self.now
    c.add_signal.new.self has (Input c.in-Input.name.now) (rw c.in-Input.is at form)
    (record { name = c.in-Input.name.now; kind = kinds.Input; inputs = [] }) refl refl
    (All-nil _) denoted.signals c.new.ensures denoted.registers denoted.outputs

pub returns-in_ok-add_output-in-Output-clause-denoted :
    goal.returns-in_ok-add_output-in-Output-clause-denoted
returns-in_ok-add_output-in-Output-clause-denoted c =
    let denoted = c.in_ok-add_output-in-Output.ensures in
    λ earlier line form has. output_denoted c.args.names.now line c.args.self.now has
    c.add_output.new.self (rw c.in-Output.is at form) denoted.signals denoted.registers
    denoted.outputs

pub returns-in_ok-add_signal-in-Assign-clause-denoted :
    goal.returns-in_ok-add_signal-in-Assign-clause-denoted
returns-in_ok-add_signal-in-Assign-clause-denoted c =
    let reads = c.in_ok-fan_in-in-Assign.ensures in
    let denoted = c.in_ok-add_signal-in-Assign.ensures in
    λ earlier line form has. defining_denoted c.args.names.now line c.args.self.now
    c.add_signal-in-Assign.new.self has
    (Assign c.in-Assign.name.now c.in-Assign.word.now c.in-Assign.inputs)
    (rw c.in-Assign.is at form)
    (record {
      name = c.in-Assign.name.now;
      kind = c.unwrap.result;
      inputs = c.in-Assign.inputs;
    }) (rw (← c.kind_of.ensures, c.unwrap.ensures) refl) refl reads.defined
    denoted.signals reads.numbers denoted.registers denoted.outputs

pub returns-in_err-add_output-in-Output-clause-refused :
    goal.returns-in_err-add_output-in-Output-clause-refused
returns-in_err-add_output-in-Output-clause-refused c =
    let p = err_from_is_err_and c.from_residual-in_err-add_output-in-Output.result
    c.from_residual-in_err-add_output-in-Output.ensures.1 in
    rw (p.1, p.2) (misses_use c.args.said.now.number c.args.names.now _
    (said_by c.args.said.now.statement) _
    (ap (λ s. uses_of (said_by s)) c.in-Output.is) c.in_err-add_output-in-Output.ensures.refused)

pub returns-in_err-fan_in-in-Assign-clause-refused :
    goal.returns-in_err-fan_in-in-Assign-clause-refused
returns-in_err-fan_in-in-Assign-clause-refused c =
    let p = err_from_is_err_and c.from_residual-in_err-fan_in-in-Assign.result
    c.from_residual-in_err-fan_in-in-Assign.ensures.1 in
    rw (p.1, p.2) (misses_use c.args.said.now.number c.args.names.now _
    (said_by c.args.said.now.statement) _
    (ap (λ s. uses_of (said_by s)) c.in-Assign.is) c.in_err-fan_in-in-Assign.ensures.refused)
