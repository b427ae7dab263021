-- What the shows of a tree say of every embedding that realises the offsets.
use Rattle.cts_model.proofs.Vocabulary.{◌≡◌, ℕ, zero, suc, ◌<◌, ◌≤◌, ◌+◌, ◌-◌, ℤ, pos, ◌+ℤ◌, ◌-ℤ◌, ◌*ℤ◌, ◌≤ℤ◌, List, length, inl, inr, refl, sym, ap, subst, ◌∙◌, arith, IfSome, IsSomeAnd, slice_get, cases_lt, ints, slice_get_cases, IfSome_then, Sink, Uv, Merge, Embedding, IsEmbedding, AreWiresDown, RealisesOffsets, IsLeastWire, total_length, total_wire, rotated_distance, HasReaches, span, AreReaches, AreShown, ShowsMerge, ShowsSource, IsTopology, numbers_below, root_of, source_of}
use Rattle.cts_model.specs.Types.{Show}
use Rattle.cts_model.specs.declared.tree.Show.TheVariants as shows
use Rattle.cts_model.proofs.EmbeddingLemmas.{realised, realised_reaches, realised_of_sink, span_low, source_low, root_low}
use Rattle.cts_model.proofs.ParentLemmas.{both_at, has_parent, made_parent, parent_above, parent_stands, total_by_merges}
use Rattle.cts_model.proofs.ScaleLemmas.{scale-add}
use Rattle.cts_model.proofs.TopologyLemmas.{some_and, merge_at, merge_here}
use Rattle.cts_model.proofs.TotalLemmas.{total_length-le, total_length-scaled, total_length-parts, total_length-twice}

-- wires down, as what is left of the source's reach, where the reaches' differences are lengths
pub wires_left : (sinks : ℕ) (merges : List Merge) (lengths reach : ℕ → ℤ)
    → AreReaches sinks merges lengths reach
    → AreWiresDown sinks merges lengths (λ node. reach (source_of sinks) -ℤ reach node)
wires_left sinks merges lengths reach reaches = record {
  source = omega (arith, ints);
  each = λ node parent is.
      let long = reaches node parent is in
      omega (arith, ints);
}

module _ {sinks : ℕ} {merges : List Merge} (topology : IsTopology sinks merges)
    (lengths reach wire : ℕ → ℤ) (reaches : AreReaches sinks merges lengths reach)
    (wires : AreWiresDown sinks merges lengths wire) where
  -- what the wire down to a node leaves of the source's reach is the node's
  abbrev IsLeft : ℕ → Type 0
  IsLeft node = wire node ≡ reach (source_of sinks) -ℤ reach node

  source_left : IsLeft (source_of sinks)
  source_left = omega (arith, ints, wires.source)

  -- of a node so far below the source
  left_from : (rest node : ℕ) → source_of sinks ≤ node + rest → node ≤ source_of sinks
      → IsLeft node
  left_from zero node near low =
      let same : source_of sinks ≡ node = omega arith in subst IsLeft same source_left
  left_from (suc rest) node near low = elim (cases_lt node (source_of sinks)) [
    | inl below ↦
        let (parent, is) = has_parent topology node below in
        let above = parent_above topology node parent is in
        let left = left_from rest parent (omega arith) (parent_stands topology node parent is) in
        let down = wires.each node parent is in
        let long = reaches node parent is in
        omega (arith, ints)
    | inr there ↦
        let same : source_of sinks ≡ node = omega arith in subst IsLeft same source_left
  ]

  -- so it is with all nodes, whichever the wires down
  pub wires_are_left : (node : ℕ) → node ≤ source_of sinks → IsLeft node
  wires_are_left node low = left_from (source_of sinks) node (omega arith) low

-- a tree with reaches realises the offsets
unfoldable pub reaches_realise_at : (scale : ℕ) (sinks : List Sink) (merges : List Merge)
    (tree : Embedding) → (reach : ℕ → ℤ) → HasReaches scale sinks merges tree reach
    → RealisesOffsets scale sinks merges tree
reaches_realise_at scale sinks merges tree reach has = record {
  wire = λ node. reach (source_of (length sinks)) -ℤ reach node;
  wires = wires_left (length sinks) merges tree.length reach has.of_edges;
  common = reach (source_of (length sinks));
  level = λ register. IfSome_then (slice_get sinks register) (has.of_sinks register)
      (λ sink is. omega (arith, ints));
}

-- edges as long as their ends' reaches differ realise the offsets, where a sink's reach is its
-- offset
pub reaches_realise : (sinks : List Sink) (merges : List Merge) (source : Uv) (tree : Embedding)
    → (reach : ℕ → ℤ) → AreShown sinks merges source reach
    → AreReaches (length sinks) merges tree.length reach → RealisesOffsets 1 sinks merges tree
reaches_realise sinks merges source tree reach shown reaches =
    reaches_realise_at 1 sinks merges tree reach (record {
      of_sinks = λ register. IfSome_then (slice_get sinks register) (shown.of_sinks register)
          (λ sink is. omega (arith, ints));
      of_edges = reaches;
    })

-- the values of the nodes that merges make
abbrev pub made : (sinks : ℕ) → (ℕ → ℤ) → ℕ → ℤ
made sinks value place = value (sinks + place)

-- where lengths are differences of reaches, they and the sinks' reaches sum to what the source's
-- and the merges' do
pub wire_by_reaches : (sinks : ℕ) (merges : List Merge) (lengths reach : ℕ → ℤ)
    → IsTopology sinks merges → AreReaches sinks merges lengths reach
    → total_length lengths (source_of sinks) +ℤ total_length reach sinks
    ≡ reach (source_of sinks) +ℤ total_length (made sinks reach) (length merges)
wire_by_reaches sinks merges lengths reach topology reaches =
    let count = length merges in
    let all : sinks ≡ length merges + 1 = topology.all in
    let root = root_of sinks in
    let lengths_joined = total_by_merges topology lengths in
    let reaches_joined = total_by_merges topology reach in
    let twice = total_length-twice (both_at merges lengths) (both_at merges reach)
    (made sinks reach) count (λ place within.
    let merge : Merge = merge_at merges place in
    let parent = made_parent sinks merges place merge (merge_here merges place within) in
    let first = reaches merge.first (sinks + place) (parent merge.first (inl refl)) in
    let second = reaches merge.second (sinks + place) (parent merge.second (inr refl)) in
    omega (arith, ints)) in
    let parts = total_length-parts reach sinks count in
    let same : sinks + count ≡ suc root = omega arith in
    let reaches_all = ap (λ n. total_length reach n) same in
    let above : source_of sinks ≡ suc root = omega arith in
    let lengths_all = ap (λ n. total_length lengths n) above in
    let last = reaches root (source_of sinks) (inr (refl, refl)) in
    omega (arith, ints)

module _ {scale : ℕ} {sinks : List Sink} {merges : List Merge} {source : Uv} {tree : Embedding}
    (topology : IsTopology (length sinks) merges)
    (embeds : IsEmbedding scale sinks merges source tree)
    (realises : RealisesOffsets scale sinks merges tree) (reach : ℕ → ℤ)
    (shown : AreShown sinks merges source reach) where
  -- the reaches of the embedding
  abbrev own : ℕ → ℤ
  own = realised topology embeds realises

  -- a sink's is the shown one over the scale
  sink_level : (register : ℕ) → register < length sinks
      → pos scale *ℤ reach register ≡ own register
  sink_level register within = elim ((slice_get_cases sinks register).1) [
    | inl there ↦
        let is : reach register ≡ there.0.offset = subst (λ found. IfSome found
        (λ sink. reach register ≡ sink.offset)) there.2 (shown.of_sinks register) in
        ap (λ z. pos scale *ℤ z) is
        ∙ sym (realised_of_sink topology embeds realises register there.0 there.2)
    | inr past ↦ absurd (omega (arith, past.0))
  ]

  -- a merge's is no lower than the shown one over the scale
  merge_low : (place : ℕ) → place < length merges → (pos scale *ℤ reach (length sinks + place))
      ≤ℤ own (length sinks + place)
  merge_low place within =
      let (show, shows) = shown.of_merges place within in low_of show shows
    where
      node : ℕ
      node = length sinks + place

      low_of : (show : Show)
          → ShowsMerge sinks (numbers_below (length sinks) merges node) (reach node) show
          → (pos scale *ℤ reach node) ≤ℤ own node
      low_of (shows.Pair first second) is =
          let (one, here, rest) = some_and (slice_get sinks first) (λ one. IsSomeAnd
          (slice_get sinks second) (λ other. reach node +ℤ reach node ≡ span one other))
          is.value in
          let (other, there, value) = some_and (slice_get sinks second)
          (λ other. reach node +ℤ reach node ≡ span one other) rest in
          let low = span_low topology embeds realises node (omega arith) first second one other
          is.first_below is.second_below here there in
          let over = ap (λ z. pos scale *ℤ z) value in
          let twice = scale-add scale (reach node) (reach node) in
          omega (arith, ints)
      low_of (shows.Sink register) is = absurd is
      low_of shows.Root is = absurd is

  -- so it is with each node but the source
  node_low : (node : ℕ) → node < source_of (length sinks)
      → (pos scale *ℤ reach node) ≤ℤ own node
  node_low node low = elim (cases_lt node (length sinks)) [
    | inl sink ↦ let level = sink_level node sink in omega (arith, ints)
    | inr above ↦
        let same : length sinks + (node - length sinks) ≡ node = omega arith in
        subst (λ node. (pos scale *ℤ reach node) ≤ℤ own node) same
        (merge_low (node - length sinks) (omega (arith, topology.all)))
  ]

  -- and with the source
  shown_source_low : (pos scale *ℤ reach (source_of (length sinks)))
      ≤ℤ own (source_of (length sinks))
  shown_source_low = let (show, shows) = shown.of_source in low_of show shows
    where
      top : ℕ
      top = source_of (length sinks)

      low_of : (show : Show)
          → ShowsSource sinks source (reach (root_of (length sinks))) (reach top) show
          → (pos scale *ℤ reach top) ≤ℤ own top
      low_of (shows.Pair first second) is = absurd is
      low_of (shows.Sink register) is =
          let (sink, here, value) = some_and (slice_get sinks register)
          (λ sink. reach top ≡ sink.offset +ℤ rotated_distance source sink.at) is in
          let low = source_low topology embeds realises register sink here in
          let over = ap (λ z. pos scale *ℤ z) value in
          omega (arith, ints)
      low_of shows.Root is =
          let low = node_low (root_of (length sinks)) (omega (arith, topology.all)) in
          let over = ap (λ z. pos scale *ℤ z) is in
          omega (arith, ints, root_low topology embeds realises)

  -- so lengths by the shown reaches are the least wire
  least_of_all : (lengths : ℕ → ℤ) → AreReaches (length sinks) merges lengths reach
      → (pos scale *ℤ total_length lengths (source_of (length sinks)))
      ≤ℤ total_length tree.length (source_of (length sinks))
  least_of_all lengths reaches =
      let count = length merges in
      let registers = length sinks in
      let shown_wire = wire_by_reaches registers merges lengths reach topology reaches in
      let other = wire_by_reaches registers merges tree.length own topology
      (realised_reaches topology embeds realises) in
      let over = ap (λ z. pos scale *ℤ z) shown_wire in
      let left = scale-add scale (total_length lengths (source_of registers))
      (total_length reach registers) in
      let right = scale-add scale (reach (source_of registers))
      (total_length (made registers reach) count) in
      let sinks_level = total_length-le own (λ node. pos scale *ℤ reach node) registers
      (λ node within. let level = sink_level node within in omega (arith, ints)) in
      let sinks_scaled = total_length-scaled scale reach registers in
      let merges_low = total_length-le (λ place. pos scale *ℤ reach (registers + place))
      (made registers own) count merge_low in
      let merges_scaled = total_length-scaled scale (made registers reach) count in
      omega (arith, ints, shown_source_low)

-- where each reach is shown, no embedding that realises the offsets has less wire
pub shown_reaches_are_least : (sinks : List Sink) (merges : List Merge) (source : Uv)
    → (tree : Embedding) (reach : ℕ → ℤ) → IsTopology (length sinks) merges
    → AreShown sinks merges source reach → AreReaches (length sinks) merges tree.length reach
    → IsLeastWire sinks merges source (total_wire (length sinks) tree)
shown_reaches_are_least sinks merges source tree reach topology shown reaches =
    λ scale other proper embeds realises.
    least_of_all topology embeds realises reach shown tree.length reaches
