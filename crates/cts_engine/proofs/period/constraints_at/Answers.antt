use Rattle.std.proofs.Common.{sym}
use Rattle.cts_engine.proofs.PlaceLemmas.{constraints_at_more}
use Rattle.cts_engine.proofs.period.constraints_at.Goals as goal

pub loop-place-preserved : goal.loop-place-preserved
loop-place-preserved c =
    let within = rw (← c.as_slice-place-items.ensures) at c.requires in
    rw (c.in_ok-push.ensures.ok, c.loop-place.invariant, c.as_slice.ensures)
    (sym (constraints_at_more c.args.constraints.now _ _ _ _ c.loop-place-test.true within))
