-- What a report shows of its tree is so.
use Rattle.cts_model.proofs.Vocabulary.{◌≡◌, ◌⊎◌, ℕ, ◌<◌, ◌≤◌, ◌+◌, ◌*◌, ℤ, pos, ◌*ℤ◌, List, length, inl, inr, refl, sym, subst, ◌∙◌, arith, IfSome, cases_lt, ints, IfSome_then, slice_get_past, slice_get_within, Sink, Uv, Report, Merge, Embedding, IsEmbedding, IsLeastWire, RealisesOffsets, embedding_of, scaled, rotated, number_at, IsShownTree, AreReaches, AreShown, ShowsMerge, ShowsSource, IsTopology, numbers_below, root_of, source_of}
use Rattle.std.specs.Prelude.{slice_get}
use Rattle.cts_model.proofs.ParentLemmas.{parent_above, parent_stands}
use Rattle.cts_model.proofs.TopologyLemmas.{some_and}
use Rattle.cts_model.proofs.TreeLemmas.{reaches_realise, shown_reaches_are_least}

-- over a scale of 1 a place stays
pub scaled-once : (at : Uv) → at ≡ scaled 1 at
scaled-once at =
    let u : at.u ≡ pos 1 *ℤ at.u = omega (arith, ints) in
    let v : at.v ≡ pos 1 *ℤ at.v = omega (arith, ints) in
    λ i. record { u = u i; v = v i }

module _ {sinks : List Sink} {source : Uv} (report : Report)
    (all : length sinks ≡ length report.topology.merges + 1)
    (edges : length report.tree.length + 1 ≡ 2 * length sinks)
    (shown : IsShownTree sinks source report) where
  abbrev merges : List Merge
  merges = report.topology.merges

  abbrev tree : Embedding
  tree = embedding_of report.tree

  abbrev reach : ℕ → ℤ
  reach = number_at report.tree.reach

  -- the merges join all the sinks
  pub shown_topology : IsTopology (length sinks) merges
  shown_topology = record {
    all = all;
    each = λ place merge here.
        let within = slice_get_within merges place merge here in
        (shown.shape (length sinks + place) (omega (arith, all))).joins place merge refl here;
  }

  -- the sinks stand at their places
  stand : (register : ℕ) → (register < length sinks) ⊎ (length sinks ≤ register)
      → IfSome (slice_get sinks register) (λ sink. rotated (tree.place register) ≡ scaled 1 sink.at)
  stand register (inl within) = IfSome_then (slice_get sinks register)
      (shown.shape register (omega arith)).sink_stands (λ sink is. is ∙ scaled-once sink.at)
  stand register (inr past) = subst (λ found. IfSome found
      (λ sink. rotated (tree.place register) ≡ scaled 1 sink.at))
      (sym (slice_get_past sinks register past)) tt

  -- the tree embeds them
  pub shown_embedding : IsEmbedding 1 sinks merges source tree
  shown_embedding = record {
    sinks_stand = λ register. stand register (cases_lt register (length sinks));
    source_stands = (shown.shape (source_of (length sinks)) (omega (arith, all))).source_stands refl
        ∙ scaled-once source;
    long_enough = λ node parent is.
        let above = parent_above shown_topology node parent is in
        let stands = parent_stands shown_topology node parent is in
        shown.long_enough node (omega (arith, edges)) parent is;
  }

  -- each edge is as long as its ends' reaches differ
  pub shown_reaches : AreReaches (length sinks) merges tree.length reach
  shown_reaches node parent is =
      let stands = parent_stands shown_topology node parent is in
      (shown.reaches parent (omega (arith, all))).reach_is node is

  module _ (level : (register : ℕ) → IfSome (slice_get sinks register)
      (λ sink. reach register ≡ sink.offset)) where
    -- and each reach is shown
    are_shown : AreShown sinks merges source reach
    are_shown = record {
      of_sinks = level;
      of_merges = λ place within.
          let (show, here, shows) = some_and (slice_get report.shows place)
          (ShowsMerge sinks (numbers_below (length sinks) merges (length sinks + place))
          (reach (length sinks + place)))
          ((shown.reaches (length sinks + place) (omega (arith, all))).of_merge place within refl)
          in (show, shows);
      of_source =
          let (show, here, shows) = some_and (slice_get report.shows (length merges))
          (ShowsSource sinks source (reach (root_of (length sinks)))
          (reach (source_of (length sinks))))
          ((shown.reaches (source_of (length sinks)) (omega (arith, all))).of_source refl)
          in (show, shows);
    }

    -- so the tree realises the offsets
    pub shown_offsets : RealisesOffsets 1 sinks merges tree
    shown_offsets = reaches_realise sinks merges source tree reach are_shown shown_reaches

    -- and has the least wire
    pub shown_wire : IsLeastWire sinks merges source report.total
    shown_wire = subst (IsLeastWire sinks merges source) (sym shown.total)
        (shown_reaches_are_least sinks merges source tree reach shown_topology are_shown
        shown_reaches)
