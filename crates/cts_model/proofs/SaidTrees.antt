-- What is judged of a report's tree, place by place, is what the report says of the tree.
use Rattle.cts_model.proofs.Vocabulary.{◌≡◌, ℕ, ◌+◌, ◌*◌, ℤ, List, length, refl, sym, ap, subst, ◌∙◌, arith, IfSome, IsSomeAnd, ints, IfSome_then, slice_get_within, Sink, Uv, Report, Tech, Merge, Embedding, embedding_of, HasShape, IsDrawnEdge, IsReachShown, IsSkewed, rotated, RealisesSchedule, number_at, ShowsTree, IsShownTree, AreReaches, ShowsMerge, ShowsSource, numbers_below, root_of, source_of}
use Rattle.std.specs.Prelude.{slice_get}
use Rattle.cts_model.proofs.DownLemmas.{down_are_reaches, reaches_are_down}
use Rattle.cts_model.proofs.ParentLemmas.{parent_above, parent_stands}
use Rattle.cts_model.proofs.SaidTimings.{if_there}
use Rattle.cts_model.proofs.ShownTrees.{shown_embedding, shown_reaches, shown_topology, scaled-once}
use Rattle.cts_model.proofs.TreeLemmas.{wires_are_left}

module _ (tech : Tech) (report : Report) where
  abbrev merges : List Merge
  merges = report.topology.merges

  abbrev tree : Embedding
  tree = embedding_of report.tree

  abbrev reach : ℕ → ℤ
  reach = number_at report.tree.reach

  module _ {sinks : List Sink} {source : Uv}
      (all : length sinks ≡ length merges + 1)
      (edges : length report.tree.length + 1 ≡ 2 * length sinks)
      (level : (register : ℕ) → IfSome (slice_get sinks register)
      (λ sink. reach register ≡ sink.offset)) where
    module _ (shown : IsShownTree sinks source report) where
      -- an edge that has a parent has a length, so it is judged
      drawn : (edge : ℕ) → IsDrawnEdge (length sinks) merges tree report.wires edge
      drawn edge parent wire is here =
          let topology = shown_topology report all edges shown in
          let above = parent_above topology edge parent is in
          let stands = parent_stands topology edge parent is in
          shown.drawn edge (omega (arith, edges)) parent wire is here

      -- what is judged of the tree is what the report says of it
      pub said_tree : length report.shows ≡ length sinks
          → RealisesSchedule 1 report.period tech merges report.schedule tree
          → ShowsTree tech sinks source report
      said_tree shows realises = record {
        topology = shown_topology report all edges shown;
        embedding = shown_embedding report all edges shown;
        drawn = drawn;
        realises = realises;
        reaches = reaches_are_down sinks merges tree.length reach
            (shown_reaches report all edges shown) level;
        shows = record {
          all = shows ∙ all;
          of_sinks = level;
          of_merges = λ place within.
              let node = length sinks + place in
              (shown.reaches node (omega (arith, all))).of_merge place within refl;
          of_source =
              let top = source_of (length sinks) in
              (shown.reaches top (omega (arith, all))).of_source refl;
        };
        total = shown.total;
      }

    module _ (said : ShowsTree tech sinks source report) where
      -- edges are as long as their ends' reaches differ
      reaches : AreReaches (length sinks) merges tree.length reach
      reaches = down_are_reaches sinks merges tree.length reach said.topology said.reaches

      -- what stands at a node
      shape : (node : ℕ) → HasShape sinks merges source tree node
      shape node = record {
        sink_stands = IfSome_then (slice_get sinks node) (said.embedding.sinks_stand node)
            (λ sink stands. stands ∙ sym (scaled-once sink.at));
        joins = λ place merge is here. said.topology.each place merge here;
        source_stands = λ is. ap (λ (at : ℕ). rotated (tree.place at)) is
            ∙ said.embedding.source_stands ∙ sym (scaled-once source);
      }

      -- the wire down to a register
      skewed : (register : ℕ) → IsSkewed sinks merges tree register
      skewed register wire wires = if_there (slice_get sinks register) (λ sink here.
          if_there (slice_get sinks 0) (λ first there.
          let within = slice_get_within sinks register sink here in
          let own = wires_are_left said.topology tree.length reach wire reaches wires register
          (omega arith) in
          let other = wires_are_left said.topology tree.length reach wire reaches wires 0
          (omega arith) in
          let reach_is : reach register ≡ sink.offset = subst (λ found. IfSome found
          (λ sink. reach register ≡ sink.offset)) here (level register) in
          let first_is : reach 0 ≡ first.offset = subst (λ found. IfSome found
          (λ sink. reach 0 ≡ sink.offset)) there (level 0) in
          omega (arith, ints)))

      -- the reach of a node, and what shows it
      reach_shown : (node : ℕ) → IsReachShown sinks merges source tree reach report.shows node
      reach_shown node = record {
        reach_is = λ below is. reaches below node is;
        of_merge = λ place within is. subst (λ (at : ℕ). IsSomeAnd (slice_get report.shows place)
            (ShowsMerge sinks (numbers_below (length sinks) merges at) (reach at))) (sym is)
            (said.shows.of_merges place within);
        of_source = λ is. subst (λ (at : ℕ). IsSomeAnd (slice_get report.shows (length merges))
            (ShowsSource sinks source (reach (root_of (length sinks))) (reach at))) (sym is)
            said.shows.of_source;
      }

      -- and the other way round
      pub judged_tree : IsShownTree sinks source report
      judged_tree = record {
        shape = λ node within. shape node;
        long_enough = λ edge within parent is. said.embedding.long_enough edge parent is;
        drawn = λ edge within. said.drawn edge;
        skewed = λ register within. skewed register;
        reaches = λ node within. reach_shown node;
        total = said.total;
      }
