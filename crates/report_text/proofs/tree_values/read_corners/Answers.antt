use Rattle.report_text.proofs.Vocabulary.{◌≡◌, arith}
use Rattle.report_text.proofs.ScanLemmas.{corner_read}
use Rattle.report_text.proofs.tree_values.read_corners.Goals as goal

pub loop-place-preserved : goal.loop-place-preserved
loop-place-preserved c =
    corner_read _ _ _ _ _ _ _ c.loop-place.invariant (omega (
      arith,
      c.loop-place-test.true,
      c.requires,
    )) c.read_point.ensures

pub returns-clause-taken : goal.returns-clause-taken
returns-clause-taken c =
    let done : c.loop-place.place ≡ c.args.points =
    omega (arith, c.loop-place-test.false, c.loop-place.auto.place-end) in
    rw (← done) c.loop-place.invariant.taken
