use Rattle.std.proofs.Common.{◌+◌, ◌*◌, min, ap, ◌∙◌}
use Rattle.cts_base.proofs.ScaleLemmas.{number_step}
use Rattle.cts_base.proofs.number.scale.number_after.Goals as goal

pub loop-byte-preserved : goal.loop-byte-preserved
loop-byte-preserved c =
    c.min-number.ensures
    ∙ ap (λ digit. min (c.loop-byte.number * 10 + digit) c.args.ceiling)
    (c.from.ensures ∙ c.saturating_sub.ensures)
    ∙ number_step c.args.start c.args.ceiling c.args.digits.now c.loop-byte.byte-index
    c.loop-byte.number c.requires.digits c.loop-byte-test.true c.loop-byte.invariant
