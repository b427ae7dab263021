-- A placed tree realises the offsets with the least wire.
use Rattle.move_session.proofs.Vocabulary.{List, length, slice_get, Sink, Merge, Show, Tree, IsLeastWire, RealisesOffsets, embedding_of, total_wire, AreShown, IsTopology, some_and}
use Rattle.cts_model.specs.declared.place.Uv.{Uv}
use Rattle.cts_model.proofs.TreeLemmas.{reaches_realise, shown_reaches_are_least}
use Rattle.place_down.specs.Trees.{IsPlacedTree, reach_in}

module _ {sinks : List Sink} {merges : List Merge} {source : Uv} {tree : Tree} {shows : List Show}
    (placed : IsPlacedTree sinks merges source tree shows) where
  -- each of its reaches is shown
  are_shown : AreShown sinks merges source (reach_in tree)
  are_shown = record {
    of_sinks = placed.shown.of_sinks;
    of_merges = λ place here.
        let (show, found, shows_it) = some_and (slice_get shows place) _
        (placed.shown.of_merges place here) in
        (show, shows_it);
    of_source =
        let (show, found, shows_it) = some_and (slice_get shows (length merges)) _
        placed.shown.of_source in
        (show, shows_it);
  }

  pub placed_realises : RealisesOffsets 1 sinks merges (embedding_of tree)
  placed_realises = reaches_realise sinks merges source (embedding_of tree) (reach_in tree)
      are_shown placed.reaches

  pub placed_least : IsTopology (length sinks) merges
      → IsLeastWire sinks merges source (total_wire (length sinks) (embedding_of tree))
  placed_least topology = shown_reaches_are_least sinks merges source (embedding_of tree)
      (reach_in tree) topology are_shown placed.reaches
