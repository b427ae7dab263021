-- How low the reaches of nodes can be in any embedding that realises the offsets.
use Rattle.cts_model.proofs.Vocabulary.{◌≡◌, ℕ, zero, suc, ◌<◌, ◌≤◌, ◌+◌, ℤ, pos, ◌+ℤ◌, ◌-ℤ◌, ◌*ℤ◌, ◌≤ℤ◌, List, [], ◌∷◌, length, Some, inl, inr, refl, sym, ap, subst, ◌∙◌, arith, IfSome, slice_get, Contains, cases_lt, ints, Contains-append_cases, slice_get_within, Point, Sink, Uv, Merge, Embedding, IsEmbedding, RealisesOffsets, distance, rotated_distance, rotated, scaled, span, AreReaches, IsTopology, IsParent, numbers_below, root_of, source_of}
use Rattle.cts_model.proofs.ParentLemmas.{made_parent, has_parent, parent_above, parent_stands}
use Rattle.cts_model.proofs.PointLemmas.{distance_by_way, distance_either, distance_from_zero, distance-itself, distance-rotated}
use Rattle.cts_model.proofs.ScaleLemmas.{scale-add, scale-distance}
use Rattle.cts_model.proofs.TopologyLemmas.{numbers_below-sink, numbers_below-merge, of_made}

-- a list of one item has no other
only_item : {X : Type 0} (only item : X) → Contains (only ∷ []) item → item ≡ only
only_item only item (zero, within, same) = sym same
only_item only item (suc place, within, same) = absurd (omega arith)

module _ {scale : ℕ} {sinks : List Sink} {merges : List Merge} {source : Uv} {tree : Embedding}
    (topology : IsTopology (length sinks) merges)
    (embeds : IsEmbedding scale sinks merges source tree)
    (realises : RealisesOffsets scale sinks merges tree) where
  -- the reach of a node in that tree: the wire from it down to any of its sinks, with its offset
  abbrev pub realised : ℕ → ℤ
  realised node = realises.common -ℤ realises.wire node

  -- edges are as long as those differ
  pub realised_reaches : AreReaches (length sinks) merges tree.length realised
  realised_reaches node parent is =
      let down = realises.wires.each node parent is in
      omega (arith, ints)

  -- a sink's is its offset
  pub realised_of_sink : (register : ℕ) (sink : Sink) → slice_get sinks register ≡ Some sink
      → realised register ≡ pos scale *ℤ sink.offset
  realised_of_sink register sink here =
      let level : realises.wire register +ℤ (pos scale *ℤ sink.offset) ≡ realises.common =
      subst (λ found. IfSome found (λ sink. realises.wire register +ℤ (pos scale *ℤ sink.offset)
      ≡ realises.common)) here (realises.level register) in
      omega (arith, ints)

  -- a node and its parent aren't further apart than those differ
  edge_far : (node parent : ℕ) → IsParent (length sinks) merges node parent
      → distance (tree.place parent) (tree.place node) ≤ℤ (realised parent -ℤ realised node)
  edge_far node parent is =
      let enough = embeds.long_enough node parent is in
      let long = realised_reaches node parent is in
      omega (arith, ints)

  -- what isn't further from a node isn't further from its parent
  further_far : (node parent number : ℕ) → IsParent (length sinks) merges node parent
      → distance (tree.place node) (tree.place number) ≤ℤ (realised node -ℤ realised number)
      → distance (tree.place parent) (tree.place number) ≤ℤ (realised parent -ℤ realised number)
  further_far node parent number is far =
      let edge = edge_far node parent is in
      let way = distance_by_way (tree.place parent) (tree.place node) (tree.place number) in
      omega (arith, ints)

  -- no sink below a node is further from it than those differ
  abbrev AllFar : ℕ → Type 0
  AllFar node = (number : ℕ) → Contains (numbers_below (length sinks) merges node) number
      → distance (tree.place node) (tree.place number) ≤ℤ (realised node -ℤ realised number)

  -- of a sink that is itself
  sink_far : (register : ℕ) → register < length sinks → AllFar register
  sink_far register within number below =
      let only = subst (λ numbers. Contains numbers number)
      (numbers_below-sink (length sinks) merges register within) below in
      let itself = distance-itself (tree.place number) in
      let same : number ≡ register = only_item register number only in
      subst (λ node. distance (tree.place node) (tree.place number)
      ≤ℤ (realised node -ℤ realised number)) same (omega (arith, ints))

  -- of what a merge makes they are those of the two that it joins
  merge_far : (place : ℕ) (merge : Merge) → slice_get merges place ≡ Some merge
      → AllFar merge.first → AllFar merge.second → AllFar (length sinks + place)
  merge_far place merge here first second number below =
      let parent = made_parent (length sinks) merges place merge here in
      elim (Contains-append_cases (numbers_below (length sinks) merges merge.first)
      (numbers_below (length sinks) merges merge.second) number
      (subst (λ numbers. Contains numbers number)
      (numbers_below-merge (length sinks) merges place merge here (topology.each place merge here))
      below)) [
        | inl in_first ↦ further_far merge.first (length sinks + place) number
            (parent merge.first (inl refl)) (first number in_first)
        | inr in_second ↦ further_far merge.second (length sinks + place) number
            (parent merge.second (inr refl)) (second number in_second)
      ]

  -- so it is with each node that stands
  below_far : (node : ℕ) → node < length sinks + length merges → AllFar node
  below_far node made =
      of_made (length sinks) merges topology.each AllFar sink_far merge_far node made

  -- and with the source and all other nodes
  source_far : (rest node : ℕ) → source_of (length sinks) ≤ node + rest
      → node < source_of (length sinks)
      → distance (tree.place (source_of (length sinks))) (tree.place node)
      ≤ℤ (realised (source_of (length sinks)) -ℤ realised node)
  source_far zero node near low = absurd (omega arith)
  source_far (suc rest) node near low =
      let (parent, is) = has_parent topology node low in
      let above = parent_above topology node parent is in
      let stands = parent_stands topology node parent is in
      elim (cases_lt parent (source_of (length sinks))) [
        | inl lower ↦
            let far = source_far rest parent (omega arith) lower in
            let edge = edge_far node parent is in
            let way = distance_by_way (tree.place (source_of (length sinks))) (tree.place parent)
            (tree.place node) in
            omega (arith, ints)
        | inr higher ↦
            let same : parent ≡ source_of (length sinks) = omega arith in
            subst (λ (from : ℕ). distance (tree.place from) (tree.place node)
            ≤ℤ (realised from -ℤ realised node)) same (edge_far node parent is)
      ]

  -- where a sink stands
  sink_stands : (register : ℕ) (sink : Sink) → slice_get sinks register ≡ Some sink
      → rotated (tree.place register) ≡ scaled scale sink.at
  sink_stands register sink here = subst (λ found. IfSome found
      (λ sink. rotated (tree.place register) ≡ scaled scale sink.at)) here
      (embeds.sinks_stand register)

  -- two points that stand at given ones are as far apart as those
  stand_apart : (one other : Point) (at to : Uv) → rotated one ≡ scaled scale at
      → rotated other ≡ scaled scale to → distance one other ≡ pos scale *ℤ rotated_distance at to
  stand_apart one other at to here there =
      distance-rotated one other
      ∙ ap (λ uv. rotated_distance uv (rotated other)) here
      ∙ ap (λ uv. rotated_distance (scaled scale at) uv) there
      ∙ sym (scale-distance scale at to)

  -- twice a node's reach is at least the span of any two sinks below it
  pub span_low : (node : ℕ) → node < length sinks + length merges → (first second : ℕ)
      → (one other : Sink) → Contains (numbers_below (length sinks) merges node) first
      → Contains (numbers_below (length sinks) merges node) second
      → slice_get sinks first ≡ Some one → slice_get sinks second ≡ Some other
      → (pos scale *ℤ span one other) ≤ℤ (realised node +ℤ realised node)
  span_low node made first second one other first_in second_in here there =
      let apart = stand_apart (tree.place first) (tree.place second) one.at other.at
      (sink_stands first one here) (sink_stands second other there) in
      let one_far = below_far node made first first_in in
      let other_far = below_far node made second second_in in
      let either = distance_either (tree.place first) (tree.place node) in
      let way = distance_by_way (tree.place first) (tree.place node) (tree.place second) in
      let one_reach = realised_of_sink first one here in
      let other_reach = realised_of_sink second other there in
      let sums = scale-add scale (one.offset +ℤ other.offset) (rotated_distance one.at other.at) in
      let offsets = scale-add scale one.offset other.offset in
      omega (arith, ints)

  -- a source's reach is at least a sink's offset and its distance
  pub source_low : (register : ℕ) (sink : Sink) → slice_get sinks register ≡ Some sink
      → (pos scale *ℤ (sink.offset +ℤ rotated_distance source sink.at))
      ≤ℤ realised (source_of (length sinks))
  source_low register sink here =
      let all : length sinks ≡ length merges + 1 = topology.all in
      let within = slice_get_within sinks register sink here in
      let far = source_far (source_of (length sinks)) register (omega arith) (omega arith) in
      let apart = stand_apart (tree.place (source_of (length sinks))) (tree.place register) source
      sink.at embeds.source_stands (sink_stands register sink here) in
      let reach = realised_of_sink register sink here in
      let sum = scale-add scale sink.offset (rotated_distance source sink.at) in
      omega (arith, ints)

  -- and at least the root's
  pub root_low : realised (root_of (length sinks)) ≤ℤ realised (source_of (length sinks))
  root_low =
      let edge = edge_far (root_of (length sinks)) (source_of (length sinks))
      (inr (refl, refl)) in
      let from_zero = distance_from_zero (tree.place (source_of (length sinks)))
      (tree.place (root_of (length sinks))) in
      omega (arith, ints)
