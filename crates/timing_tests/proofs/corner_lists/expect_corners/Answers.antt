use Rattle.timing_tests.proofs.Vocabulary.{All, [], subst, take_all, All-more, AreParallel}
use Rattle.timing_tests.proofs.corner_lists.expect_corners.Goals as goal

pub loop-corner-preserved : goal.loop-corner-preserved
loop-corner-preserved g c =
    let lists = c.args.lists.now in
    All-more (λ one. All (AreParallel one) lists) lists c.loop-corner.corner []
    c.loop-corner-test.true c.loop-corner.invariant c.expect_parallel_to_all.ensures

pub returns : goal.returns
returns g c =
    let lists = c.args.lists.now in
    record {
      some = c.expect_few.ensures.some;
      few = c.expect_few.ensures.few;
      parallel = subst (All (λ one. All (AreParallel one) lists))
          (take_all c.loop-corner.corner lists c.loop-corner-test.false) c.loop-corner.invariant;
    }
