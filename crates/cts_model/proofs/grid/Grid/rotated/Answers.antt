use Rattle.cts_model.proofs.Vocabulary.{arith, ints}
use Rattle.cts_model.proofs.grid.Grid.rotated.Goals as goal

pub to_uv-requires : goal.to_uv-requires
to_uv-requires c =
    let x = c.point.ensures.below.x in
    let y = c.point.ensures.below.y in
    record {
      x = record { above = omega (arith, ints, x.above); below = omega (arith, ints, x.below) };
      y = record { above = omega (arith, ints, y.above); below = omega (arith, ints, y.below) };
    }
