-- One constraint more.
use Rattle.cert_check.proofs.Vocabulary.{refl, OfCircuit}
use Rattle.cert_check.proofs.FirstPlaces.{each_more, fails_here}
use Rattle.cert_check.proofs.judge.Judge.judge_constraints.Goals as goal

pub loop-place-preserved : goal.loop-place-preserved
loop-place-preserved c = each_more (OfCircuit c.args.self.now) c.loop-place.place
    c.loop-place.invariant (c.is_given.ensures.0 c.if-not-is_given.false)

pub returns-then-not-is_given-clause-judges : goal.returns-then-not-is_given-clause-judges
returns-then-not-is_given-clause-judges c = (
  c.loop-place.place,
  fails_here _ (OfCircuit c.args.self.now) c.loop-place.place c.is_given.result
      c.loop-place-test.true c.loop-place.invariant c.is_given.ensures c.if-not-is_given.true,
  refl,
)
