-- What the reaches of a tree say of its wire, and what they can't be below.
use Rattle.cts_model.proofs.Vocabulary.{◌≡◌, ℕ, ◌<◌, ◌+◌, ℤ, pos, ◌+ℤ◌, ◌-ℤ◌, ◌*ℤ◌, ◌≤ℤ◌, List, length, inl, inr, refl, sym, ap, subst, ◌∙◌, arith, IfSome, slice_get, option_map_or, ints, slice_get_cases, slice_get_read, IfSome_then, Sink, Uv, Merge, Embedding, IsEmbedding, RealisesOffsets, total_length, total_wire, HasReaches, AreNoLess, total_offset, IsDoubleReach, IsTopology, root_of, sinks_below, source_of}
use Rattle.cts_model.specs.tree.ChosenPlaces.{IsSourceReach}
use Rattle.cts_model.proofs.EmbeddingLemmas.{realised, span_low, source_low, root_low}
use Rattle.cts_model.proofs.ScaleLemmas.{scale-add}
use Rattle.cts_model.proofs.TopologyLemmas.{number_below}
use Rattle.cts_model.proofs.TotalLemmas.{total_length-le, total_length-scaled}
use Rattle.cts_model.proofs.TreeLemmas.{reaches_realise_at, wire_by_reaches}

-- what the wire down to a node leaves of what is common to all sinks is its reach
pub realised_have_reaches : (scale : ℕ) (sinks : List Sink) (merges : List Merge)
    → (tree : Embedding) → RealisesOffsets scale sinks merges tree
    → (reach : ℕ → ℤ) × HasReaches scale sinks merges tree reach
realised_have_reaches scale sinks merges tree realises = (
  λ node. realises.common -ℤ realises.wire node,
  record {
    of_sinks = λ register. IfSome_then (slice_get sinks register) (realises.level register)
        (λ sink level. omega (arith, ints));
    of_edges = λ node parent is.
        let down = realises.wires.each node parent is in
        omega (arith, ints);
  },
)

module _ (scale : ℕ) (sinks : List Sink) (merges : List Merge) (source : Uv) (tree : Embedding)
    (reach : ℕ → ℤ) (topology : IsTopology (length sinks) merges)
    (embeds : IsEmbedding scale sinks merges source tree)
    (has : HasReaches scale sinks merges tree reach) where
  realises : RealisesOffsets scale sinks merges tree
  realises = reaches_realise_at scale sinks merges tree reach has

  -- its reaches are these
  own_is : (node : ℕ) → realised topology embeds realises node ≡ reach node
  unfolding realises reaches_realise_at
  own_is node = omega (arith, ints)

  -- twice a node's reach is no less than that of its sinks
  node_no_less : (node : ℕ) (twice : ℤ) → node < length sinks + length merges
      → IsDoubleReach (sinks_below sinks merges node) twice
      → (pos scale *ℤ twice) ≤ℤ (reach node +ℤ reach node)
  node_no_less node twice made is =
      let (first, first_in, here) = number_below sinks merges node is.one is.one_among in
      let (second, second_in, there) = number_below sinks merges node is.other is.other_among in
      let low = span_low topology embeds realises node made first second is.one is.other first_in
      second_in here there in
      let over = ap (λ z. pos scale *ℤ z) is.shown in
      omega (arith, ints, own_is node)

  -- the source's is no less than the root's, nor than any sink's way and offset
  source_no_less : (root least : ℤ)
      → IsDoubleReach (sinks_below sinks merges (root_of (length sinks))) (root +ℤ root)
      → IsSourceReach sinks source root least
      → (pos scale *ℤ least) ≤ℤ reach (source_of (length sinks))
  source_no_less root least is_root is = elim is.attained [
    | inl root_attains ↦
        let low = node_no_less (root_of (length sinks)) (root +ℤ root)
        (omega (arith, topology.all)) is_root in
        let twice = scale-add scale root root in
        let over = ap (λ z. pos scale *ℤ z) root_attains in
        let above = root_low topology embeds realises in
        omega (arith, ints, own_is (root_of (length sinks)), own_is (source_of (length sinks)))
    | inr attains ↦
        let (sink, among, value) = attains in
        let (register, within, same) = among in
        let here = slice_get_read sinks (length sinks) register sink refl within (sym same) in
        let low = source_low topology embeds realises register sink here in
        let over = ap (λ z. pos scale *ℤ z) value in
        omega (arith, ints, own_is (source_of (length sinks)))
  ]

-- in no embedding is a reach less than the sinks ask for
pub reaches_are_no_less : (scale : ℕ) (sinks : List Sink) (merges : List Merge) (source : Uv)
    → (tree : Embedding) (reach : ℕ → ℤ) → IsTopology (length sinks) merges
    → IsEmbedding scale sinks merges source tree → HasReaches scale sinks merges tree reach
    → AreNoLess scale sinks merges source reach
reaches_are_no_less scale sinks merges source tree reach topology embeds has = record {
  of_merges = λ place twice within. node_no_less scale sinks merges source tree reach topology
      embeds has (length sinks + place) twice (omega arith);
  of_source = source_no_less scale sinks merges source tree reach topology embeds has;
}

-- values that agree on so many nodes have one sum
total_length-same : (one other : ℕ → ℤ) (bound : ℕ)
    → ((node : ℕ) → node < bound → one node ≡ other node)
    → total_length one bound ≡ total_length other bound
total_length-same one other bound same =
    let up = total_length-le one other bound
    (λ node within. let is = same node within in omega (arith, ints)) in
    let down = total_length-le other one bound
    (λ node within. let is = same node within in omega (arith, ints)) in
    omega (arith, ints)

-- a sink's offset by its number
offset_at : List Sink → ℕ → ℤ
offset_at sinks register =
    option_map_or (λ sink. sink.offset) (slice_get sinks register) (pos 0)

-- the wire is the source's reach and those of the merges, less the offsets at that scale
pub wire_is_of_reaches : (scale : ℕ) (sinks : List Sink) (merges : List Merge) (tree : Embedding)
    → (reach : ℕ → ℤ) → IsTopology (length sinks) merges → HasReaches scale sinks merges tree reach
    → total_wire (length sinks) tree ≡ (reach (source_of (length sinks))
    +ℤ total_length (λ place. reach (length sinks + place)) (length merges))
    -ℤ (pos scale *ℤ total_offset sinks)
unfolding offset_at
wire_is_of_reaches scale sinks merges tree reach topology has =
    let joined = wire_by_reaches (length sinks) merges tree.length reach topology has.of_edges in
    let level = total_length-same reach (λ register. pos scale *ℤ offset_at sinks register)
    (length sinks) (λ register within. elim ((slice_get_cases sinks register).1) [
      | inl there ↦
          let is : reach register ≡ pos scale *ℤ there.0.offset = subst (λ found. IfSome found
          (λ sink. reach register ≡ pos scale *ℤ sink.offset)) there.2 (has.of_sinks register) in
          is ∙ sym (ap (λ found. pos scale *ℤ option_map_or (λ sink. sink.offset) found (pos 0))
          there.2)
      | inr past ↦ absurd (omega (arith, past.0))
    ]) in
    let scaled = total_length-scaled scale (offset_at sinks) (length sinks) in
    omega (arith, ints)
