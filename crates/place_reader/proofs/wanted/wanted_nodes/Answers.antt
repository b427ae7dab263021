use Rattle.place_reader.proofs.Vocabulary.{◌≡◌, take, length, ap, arith, length-map, register_nodes, node_name, slice_get, option_map_or, AreSameNames, subst, []}
use Rattle.std.proofs.lemmas.List.{take_all}
use Rattle.place_reader.proofs.NameLemmas.{names_next, names_with, with_name-length}
use Rattle.place_reader.proofs.wanted.wanted_nodes.Goals as goal

pub loop-register-preserved : goal.loop-register-preserved
loop-register-preserved c = (
  names_next _ _ (register_nodes c.args.circuit.now c.args.host.now) c.loop-register.register _
      c.register_node.ensures c.loop-register.invariant.0 c.in_ok-insert.ensures.names,
  omega (
    arith,
    ap length c.in_ok-insert.ensures.names,
    c.loop-register.invariant.1,
    with_name-length c.loop-register.names c.register_node.result.now,
  ),
)

pub returns : goal.returns
returns c =
    let nodes = register_nodes c.args.circuit.now c.args.host.now in
    let count = length-map c.args.circuit.now.registers
    (λ number. option_map_or (node_name c.args.host.now)
    (slice_get c.args.circuit.now.signals number) []) in
    let all : take c.loop-register.register nodes ≡ nodes =
    take_all c.loop-register.register nodes (omega (arith, count, c.loop-register-test.false)) in
    names_with c.loop-register.names c.insert-2.new.self nodes c.args.source.now
    (subst (AreSameNames c.loop-register.names) all c.loop-register.invariant.0)
    c.in_ok-insert-2.ensures.names
