use Rattle.std.proofs.Common.{◌∙◌, inl, inr, sym, ap, length, Err}
use Rattle.std.proofs.lemmas.Result.{err_from_is_err_and}
use Rattle.cts_base.specs.LineFormats.{first_fault}
use Rattle.topology_file.specs.TopologyTexts.{topology_line_fault}
use Rattle.topology_file.proofs.AcceptedTexts.{no_fault}
use Rattle.topology_file.proofs.read.read_topology.Goals as goal

pub returns-in_err-next-clause-accepted : goal.returns-in_err-next-clause-accepted
returns-in_err-next-clause-accepted c topology is =
    let p = err_from_is_err_and c.from_residual-in_err-next.result
    c.from_residual-in_err-next.ensures.1 in
    let flawless = ap (λ sinks. first_fault (topology_line_fault sinks) c.args.bytes.now)
    (c.in_ok-joining.ensures.sinks_are ∙ c.len.ensures)
    ∙ no_fault (length c.args.circuit.now.registers) c.args.bytes.now topology is in
    elim c.in_err-next.ensures.flawed [
      | inl some ↦ absurd (cc (sym flawless ∙ some))
      | inr memory ↦ inr (p.1 ∙ ap (λ fault. Err fault) (p.2 ∙ memory))
    ]
