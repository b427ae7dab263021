-- Twice a reach, and a span, as the code keeps them.
use Rattle.cert_check.proofs.Vocabulary.{arith, ints}
use Rattle.cert_check.proofs.shows.is_half_of_span.Goals as goal

pub returns : goal.returns
returns c =
    let offsets = c.sum-offsets.ensures in
    let twice = c.sum.ensures in
    let span = c.sum-2.ensures in
    let apart = c.rotated_distance.ensures.value in
    let near = c.rotated_distance.ensures.below in
    let reach = c.requires.reach in
    let one = c.requires.one.offset in
    let other = c.requires.other.offset in (
      λ holds.
          let same = c.are_same.ensures.0 holds in
          omega (arith, ints, offsets, twice, span, apart, near, reach, one, other, same),
      λ same. c.are_same.ensures.1
          (omega (arith, ints, offsets, twice, span, apart, near, reach, one, other, same)),
    )
