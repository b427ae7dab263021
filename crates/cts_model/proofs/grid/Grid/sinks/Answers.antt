use Rattle.cts_model.proofs.Vocabulary.{◌≡◌, ◌<◌, ◌^◌, length, pos, get_or, to_z, of_z, subst, sym, arith, w128, ints, IsBelow}
use Rattle.cts_model.proofs.GridLemmas.{sinks_of_more}
use Rattle.cts_model.proofs.grid.Grid.sinks.Goals as goal

pub sink-requires-clause-small : goal.sink-requires-clause-small
sink-requires-clause-small c =
    let register = c.loop-register.register in
    let there : register < length c.args.arrivals.now =
    omega (arith, c.requires.all, c.loop-register-test.true) in
    let small = c.requires.small register (pos 0) there in
    let plain : to_z w128 (of_z w128 (get_or c.args.arrivals.now register (pos 0)))
    ≡ get_or c.args.arrivals.now register (pos 0) = omega (arith, ints, small) in
    subst (IsBelow (10 ^ 19)) (sym plain) small

pub loop-register-preserved : goal.loop-register-preserved
loop-register-preserved c =
    let register = c.loop-register.register in
    let there : register < length c.args.arrivals.now =
    omega (arith, c.requires.all, c.loop-register-test.true) in
    let small = c.requires.small register (pos 0) there in
    let plain : to_z w128 (of_z w128 (get_or c.args.arrivals.now register (pos 0)))
    ≡ get_or c.args.arrivals.now register (pos 0) = omega (arith, ints, small) in
    rw (c.in_ok-push.ensures.ok, c.loop-register.invariant, c.sink.ensures, plain)
    (sym (sinks_of_more c.args.self.now.period c.args.self.now.tech.now c.args.places.now
    c.args.arrivals.now register (record { x = pos 0; y = pos 0 }) (pos 0)
    c.loop-register-test.true there))
