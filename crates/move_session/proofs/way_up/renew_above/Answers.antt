use Rattle.move_session.proofs.Vocabulary.{◌≡◌, ◌<◌, arith, length, subst}
use Rattle.move_session.proofs.StepsUp.{IsOnWay, on_way_first, on_way_next, way_counted}
use Rattle.move_session.proofs.way_up.renew_above.Goals as goal

pub loop-place-init : goal.loop-place-init
loop-place-init c = on_way_first c.args.sinks.now c.args.topology.now.merges c.args.register
    c.args.work.now c.requires.register c.requires.fit c.requires.beside

pub renew_joining-node-requires-clause-kept : goal.renew_joining-node-requires-clause-kept
renew_joining-node-requires-clause-kept c = λ lower before.
    (c.loop-place.invariant.of_merges lower (omega (arith, before, c.loop-place-test.true))
    (λ past. absurd (omega (arith, before, past)))).1

pub loop-place-preserved : goal.loop-place-preserved
loop-place-preserved c =
    let within : c.loop-place.place < length c.args.topology.now.merges =
    omega (arith, c.loop-place-test.true, c.len-place-end.ensures) in
    on_way_next c.args.sinks.now c.args.topology.now.merges c.args.register c.requires.topology
    c.loop-place.place within c.loop-place.invariant c.renew_joining-node.new.work
    c.renew_joining-node.result c.renew_joining-node.ensures

pub returns-clause-renewals : goal.returns-clause-renewals
returns-clause-renewals c =
    let sinks = c.args.sinks.now in
    let merges = c.args.topology.now.merges in
    let past : c.loop-place.place ≡ length merges =
    omega (arith, c.loop-place-test.false, c.loop-place.auto.place-end, c.len-place-end.ensures) in
    way_counted sinks merges c.args.register
    (subst (λ place. IsOnWay sinks merges c.args.register place c.loop-place.node c.args.work.now
    c.loop-place.work) past c.loop-place.invariant)
