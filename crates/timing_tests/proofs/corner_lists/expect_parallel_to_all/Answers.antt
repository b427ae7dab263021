use Rattle.timing_tests.proofs.Vocabulary.{All, [], subst, ◌∙◌, get_or_default, take_all, All-more, AreParallel, list_of}
use Rattle.timing_tests.proofs.corner_lists.expect_parallel_to_all.Goals as goal

pub loop-other-preserved : goal.loop-other-preserved
loop-other-preserved g c =
    let lists = c.args.lists.now in
    let corner = c.args.corner in
    let one = c.as_slice.ensures ∙ c.index-lists-corner.is
    ∙ get_or_default lists corner c.index-lists-corner.result [] c.requires in
    let other = c.as_slice-in-loop-other.ensures ∙ c.index-lists-other.is in
    All-more (AreParallel (list_of lists corner)) lists c.loop-other.other
    c.index-lists-other.result c.loop-other-test.true c.loop-other.invariant
    (rw (one, other) at c.expect_parallel.ensures)

pub returns : goal.returns
returns g c = subst (All (AreParallel (list_of c.args.lists.now c.args.corner)))
    (take_all c.loop-other.other c.args.lists.now c.loop-other-test.false) c.loop-other.invariant
