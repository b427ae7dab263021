use Rattle.cts_engine.proofs.Vocabulary.{◌≡◌, ◌∙◌, length, pos, slice_index_or, to_z, of_z, ap, sym, subst, arith, w128, ints, Embedding, IsLeastWire, embedding_of, total_length, total_wire, source_of, shown_reaches_are_least, reach_in}
use Rattle.cts_model.proofs.TotalLemmas.{total_within}
use Rattle.cts_engine.proofs.TreeBounds.{are_shown, can_draw, lengths_small}
use Rattle.cts_engine.proofs.clock_tree.tree_with.Goals as goal

pub wires_of-requires-clause-tree : goal.wires_of-requires-clause-tree
wires_of-requires-clause-tree c =
    let is = c.in_ok-tree.ensures in
    can_draw c.requires.topology c.requires.sinks.few c.in_ok-tree.tree is.lists is.numbers
    is.placed.embedded.long_enough

pub returns : goal.returns
returns c =
    let sinks = c.args.sinks.now in
    let merges = c.args.topology.now.merges in
    let tree = c.in_ok-tree.tree in
    let embedding : Embedding = embedding_of tree in
    let is = c.in_ok-tree.ensures in
    let few = c.requires.sinks.few in
    let count : length tree.length ≡ source_of (length sinks) = omega (arith, is.lists.lengths) in
    let sum = total_within embedding.length (length tree.length)
    (λ node here. lengths_small tree is.numbers node (pos 0) here) in
    let value : c.total_length-total.result ≡ total_length embedding.length (length tree.length) =
    subst (λ list. c.total_length-total.result
    ≡ total_length (λ node. slice_index_or list node (pos 0)) (length list))
    c.as_slice.ensures c.total_length-total.ensures.value in
    let read : to_z w128 (of_z w128 c.total_length-total.result) ≡ c.total_length-total.result =
    omega (arith, ints, value, sum, few, count) in
    let total : to_z w128 (of_z w128 c.total_length-total.result)
    ≡ total_wire (length sinks) embedding =
    read ∙ value ∙ ap (total_length embedding.length) count in
    record {
      tree = record {
        topology = c.requires.topology;
        placed = is.placed;
        drawn = c.in_ok-wires.ensures.drawn;
        total_is = total;
        least = subst (IsLeastWire sinks merges c.args.source) (sym total)
            (shown_reaches_are_least sinks merges c.args.source embedding (reach_in tree)
            c.requires.topology (are_shown is.placed.shown) is.placed.reaches);
      };
      numbers = is.numbers;
      lists = is.lists;
      wires = c.in_ok-wires.ensures.all;
      small_wires = c.in_ok-wires.ensures.small;
      small_total = record {
        above = omega (arith, ints, read, value, sum, few, count);
        below = omega (arith, ints, read, value, sum, few, count);
      };
    }
