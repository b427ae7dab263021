use Rattle.cert_check.proofs.Vocabulary.{arith, length-set, merge_at, merge_here}
use Rattle.cert_check.proofs.ParentLists.{entries_here, parents_all, parents_more}
use Rattle.cert_check.proofs.judge.Judge.parents_of.Goals as goal

pub loop-merge-preserved : goal.loop-merge-preserved
loop-merge-preserved c =
    let merges = c.args.merges.now in
    let place = c.loop-merge.merge-index in
    parents_more c.requires place c.loop-merge.parent (merge_at merges place)
    c.loop-merge.parents.items (merge_here merges place c.loop-merge-test.true)
    c.loop-merge.invariant

pub index_mut-requires : goal.index_mut-requires
index_mut-requires c =
    omega (arith, (entries_here c.requires c.loop-merge-test.true c.loop-merge.invariant).0)

pub index_mut-requires-in-loop-merge : goal.index_mut-requires-in-loop-merge
index_mut-requires-in-loop-merge c = omega (
  arith,
  length-set c.loop-merge.parents.items,
  (entries_here c.requires c.loop-merge-test.true c.loop-merge.invariant).1,
)

pub returns : goal.returns
returns c = search (arith, parents_all)
