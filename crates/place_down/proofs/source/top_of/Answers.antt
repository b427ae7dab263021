use Rattle.place_down.proofs.Vocabulary.{pos, take, arith, ints, to_z-of_z, take_more, take_all, slice_get-get_or, w128, kept, Sink}
use Rattle.place_down.proofs.SourceLemmas.{top_first}
use Rattle.place_down.proofs.source.top_of.Goals as goal

pub loop-register-init : goal.loop-register-init
loop-register-init c =
    let same = to_z-of_z w128 c.args.root (omega (arith, ints, c.requires.below)) in
    top_first c.args.sinks.now c.args.source (kept c.args.root) (rw same c.requires.below)
    (rw same c.requires.multiple)

pub further-top-requires-clause-sink : goal.further-top-requires-clause-sink
further-top-requires-clause-sink c = c.requires.sinks.each c.loop-register.register _
    c.loop-register-test.true

pub loop-register-preserved : goal.loop-register-preserved
loop-register-preserved c =
    let sinks = c.args.sinks.now in
    let register = c.loop-register.register in
    let within = c.loop-register-test.true in
    let back = c.to_point-at.ensures.back in
    let none : Sink = record { at = record { u = pos 0; v = pos 0 }; offset = pos 0 } in
    rw (take_more sinks register none within, ← back)
    (c.further-top.ensures sinks (take register sinks) (kept c.args.root)
    (slice_get-get_or sinks register none within) (rw back c.loop-register.invariant))

pub returns : goal.returns
returns c = rw (
  to_z-of_z w128 c.args.root (omega (arith, ints, c.requires.below)),
  take_all c.loop-register.register c.args.sinks.now c.loop-register-test.false,
) at c.loop-register.invariant
