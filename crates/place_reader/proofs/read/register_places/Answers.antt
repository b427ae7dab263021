use Rattle.place_reader.proofs.Vocabulary.{◌+◌, inl, subst, sym, arith, [], slice_get, option_map_or, length-map, node_name, kept_at, register_nodes}
use Rattle.place_reader.proofs.ToldPlaces.{ArePoints, all_points, no_point, no_points, point_more}
use Rattle.place_reader.proofs.read.register_places.Goals as goal

pub loop-register-init : goal.loop-register-init
loop-register-init c =
    let place = kept_at c.args.placing.now in
    let names = register_nodes c.args.circuit.now c.args.host.now in
    subst (ArePoints place names 0) (sym c.new-points.ensures) (no_points place names)

pub loop-register-preserved : goal.loop-register-preserved
loop-register-preserved c =
    let place = kept_at c.args.placing.now in
    let names = register_nodes c.args.circuit.now c.args.host.now in
    let register = c.loop-register.register in
    subst (ArePoints place names (register + 1)) (sym c.in_ok-push.ensures.ok)
    (point_more place names register c.loop-register.points c.loop-register.invariant
    c.register_node.result.now c.register_node.ensures c.in-Some.point (sym c.in-Some.ensures))

pub returns-in_default : goal.returns-in_default
returns-in_default c =
    inl (sym (no_point (kept_at c.args.placing.now)
    (register_nodes c.args.circuit.now c.args.host.now) c.loop-register.register
    c.loop-register.points c.loop-register.invariant c.register_node.result.now
    c.register_node.ensures (sym c.in_default.ensures)))

pub returns : goal.returns
returns c =
    let names = register_nodes c.args.circuit.now c.args.host.now in
    let last = length-map c.args.circuit.now.registers
    (λ number. option_map_or (node_name c.args.host.now)
    (slice_get c.args.circuit.now.signals number) []) in
    inl (sym (all_points (kept_at c.args.placing.now) names c.loop-register.register
    c.loop-register.points c.loop-register.invariant (omega (arith, last))))
