-- A turn includes the list of one corner more, and in the end all are combined.
use Rattle.corners.proofs.Vocabulary.{◌≡◌, ◌∙◌, take, get_or, arith, get_or-take, length-take-le, take_all, take_more, IsCombined}
use Rattle.corners.proofs.SatisfiedLemmas.{satisfied_where_each}
use Rattle.corners.proofs.SmallLemmas.{small_of_each}
use Rattle.corners.proofs.lists.combine.Goals as goal

pub loop-corner-init : goal.loop-corner-init
loop-corner-init c = search (arith, take_more)

pub include-requires-clause-constraints : goal.include-requires-clause-constraints
include-requires-clause-constraints c = search (arith, length-take-le, get_or-take)

pub include-requires-clause-corners : goal.include-requires-clause-corners
include-requires-clause-corners c =
    c.loop-corner.invariant.named ∙ include-requires-clause-constraints c

pub loop-corner-preserved : goal.loop-corner-preserved
loop-corner-preserved c =
    let lists = c.as_slice-lists.result.now in
    let corner = c.loop-corner.corner in
    let place = c.index-lists-corner.result in
    let next : c.as_slice-in-loop-corner.result.now ≡ get_or lists corner place =
    c.as_slice-in-loop-corner.ensures ∙ c.index-lists-corner.is in
    rw (take_more lists corner place (omega (arith, c.loop-corner-test.true)), ← next)
    (c.include.ensures (take corner lists)
    (length-take-le corner lists (omega (arith, c.loop-corner-test.true)))
    c.loop-corner.invariant)

pub returns : goal.returns
returns c =
    let lists = c.args.lists.now in
    let combined = c.loop-corner.combined in
    let all : IsCombined lists combined =
    rw (
      take_all c.loop-corner.corner c.as_slice-lists.result.now c.loop-corner-test.false,
      c.as_slice-lists.ensures,
    ) at c.loop-corner.invariant in
    record {
      lengths = all.lengths;
      corners = all.named;
      greatest = all.each;
      satisfies = λ scale period arrival. satisfied_where_each scale period arrival lists
          combined.constraints combined.corner c.requires all.lengths all.each;
      small = λ registers small. small_of_each registers lists combined.constraints
          combined.corner c.requires.some all.lengths all.each small;
    }
