-- A reach, and a distance with an offset, as the code keeps them.
use Rattle.cert_check.proofs.Vocabulary.{arith, ints}
use Rattle.cert_check.proofs.shows.is_reach_from.Goals as goal

pub returns : goal.returns
returns c =
    let sum = c.sum.ensures in
    let apart = c.rotated_distance.ensures.value in
    let near = c.rotated_distance.ensures.below in
    let offset = c.requires.sink.offset in (
      λ holds.
          let same = c.are_same.ensures.0 holds in
          omega (arith, ints, sum, apart, near, offset, same),
      λ same. c.are_same.ensures.1 (omega (arith, ints, sum, apart, near, offset, same)),
    )
