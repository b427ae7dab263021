use Rattle.cts_program.proofs.Vocabulary.{◌≡◌, ◌++◌, ◌∙◌, to_z, of_z, arith, w128, ints, line_of, wire_line}
use Rattle.cts_program.proofs.moves.push_wire.Goals as goal

pub returns : goal.returns
returns c =
    let session = c.args.session.now in
    let total = c.total-total.result in
    let of = c.total-total.ensures in
    let grid_is : to_z w128 (of_z w128 c.args.grid) ≡ c.args.grid =
    omega (arith, ints, c.requires) in
    let total_is : to_z w128 (of_z w128 total) ≡ total = omega (arith, ints, of.below) in
    record {
      wire = total;
      is_wire = record {
        tree = session.tree;
        shows = session.shows;
        placed = of.stands.placed;
        total = of.value;
        realises = of.realises;
        least = of.least;
      };
      line = c.in_ok-push_wire_length.ensures
          ∙ (λ i. c.args.out.now.items ++ line_of (wire_line (grid_is i) (total_is i)));
    }
