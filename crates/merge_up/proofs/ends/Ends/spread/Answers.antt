use Rattle.merge_up.proofs.Vocabulary.{arith, ints, clamps}
use Rattle.merge_up.proofs.ends.Ends.spread.Goals as goal

pub returns-clause-value : goal.returns-clause-value
returns-clause-value c =
    omega (arith, ints, clamps, c.max.ensures.value, c.spread.ensures, c.spread-2.ensures)

pub returns-clause-below : goal.returns-clause-below
returns-clause-below c = record {
  above = omega (arith, ints, clamps, c.max.ensures.value, c.spread.ensures, c.spread-2.ensures);
  below = omega (arith, ints, clamps, c.max.ensures.value, c.spread.ensures, c.spread-2.ensures);
}

pub returns-clause-multiple : goal.returns-clause-multiple
returns-clause-multiple c =
    omega (arith, ints, clamps, c.max.ensures.value, c.spread.ensures, c.spread-2.ensures)
