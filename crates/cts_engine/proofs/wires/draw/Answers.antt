use Rattle.cts_engine.proofs.Vocabulary.{◌≡◌, to_z, of_z, take, arith, w128, ints, Embedding, embedding_of, distance_from_zero, IsWireOf}
use Rattle.cts_engine.proofs.WireLemmas.{drawn_below}
use Rattle.cts_engine.proofs.wires.draw.Goals as goal

pub returns : goal.returns
returns c =
    let edge = c.requires.edge.edge in
    let tree : Embedding = embedding_of c.args.tree.now in
    let from = tree.place c.args.parent in
    let to = tree.place c.args.node in
    let long : to_z w128 (of_z w128 (tree.length c.args.node)) ≡ tree.length c.args.node =
    omega (arith, ints, edge.enough, edge.below, distance_from_zero from to) in
    let places = c.as_slice-places.ensures in
    let lengths = c.as_slice.ensures in
    let is : IsWireOf tree c.args.node c.args.parent c.wire-wire.result = record {
      drawn = rw (places, lengths, long) at c.wire-wire.ensures.drawn;
      points = rw (places, lengths, long) at c.wire-wire.ensures.points;
    } in
    record {
      wire = c.wire-wire.result;
      is = is;
      small = record {
        some = c.wire-wire.ensures.used.0;
        few = c.wire-wire.ensures.used.1;
        padded = c.wire-wire.ensures.padded;
        each = drawn_below from to (tree.length c.args.node)
            (take c.wire-wire.result.used c.wire-wire.result.corners) is.drawn edge.from_below
            edge.to_below edge.below;
      };
      rest = c.set.ensures;
    }
