use Rattle.std.proofs.Common.{◌≡◌, ◌*◌, ◌^◌, min, lit≤, ap, ◌∙◌, arith}
use Rattle.cts_base.proofs.ScaleLemmas.{raised_step, raised_enough}
use Rattle.cts_base.proofs.number.scale.raised_number.Goals as goal

pub loop-place-preserved : goal.loop-place-preserved
loop-place-preserved c = c.min-size.ensures
    ∙ raised_step c.args.number c.loop-place.size c.loop-place._place 1000000000000001
    c.loop-place.invariant

pub returns : goal.returns
returns c =
    let last : c.loop-place._place ≡ min c.args.places 16 = omega arith in
    c.loop-place.invariant
    ∙ ap (λ place. min (c.args.number * 10 ^ place) 1000000000000001) last
    ∙ raised_enough c.args.number c.args.places 1000000000000001 (lit≤ tt)
