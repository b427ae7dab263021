-- What a session stands for: the tree over its sinks as they are now, with its topology and its
-- source. Boese and Kahng 1992; Chao and others 1992.
use Rattle.std.specs.Prelude.{◌≡◌, ℕ, pos, List, slice_index_or, slice_set}
use Rattle.cts_model.specs.declared.place.Sink.{Sink}
use Rattle.cts_model.specs.declared.place.Uv.{Uv}
use Rattle.cts_model.specs.declared.tree.Merge.{Merge}
use Rattle.cts_model.specs.declared.tree.Show.{Show}
use Rattle.cts_model.specs.declared.tree.Tree.{Tree}
use Rattle.place_down.specs.Trees.{HasTreeNumbers, IsPlacedTree}

-- the sinks as they are now, the merges and the source, the tree with what shows its reaches, and
-- how many merges were made or renewed
pub record SessionState : Type 0 where
  pub sinks : List Sink
  pub merges : List Merge
  pub source : Uv
  pub tree : Tree
  pub shows : List Show
  pub renewals : ℕ

-- the tree embeds these merges over these sinks, each node at its chosen place with the least
-- reach, and each edge as long as the reaches of its ends differ
pub record StandsFor (sinks : List Sink) (merges : List Merge) (source : Uv)
    (session : SessionState) : Type 0 where
  pub sinks_are : session.sinks ≡ sinks
  pub merges_are : session.merges ≡ merges
  pub source_is : session.source ≡ source
  pub placed : IsPlacedTree sinks merges source session.tree session.shows
  pub numbers : HasTreeNumbers session.tree

-- the register's sink at another place; its offset stays
abbrev pub moved_sink : List Sink → (register : ℕ) → (to : Uv) → Sink
moved_sink sinks register to =
    record (slice_index_or sinks register (record { at = to; offset = pos 0 })) { at = to }

-- the sinks with that one alone at another place
abbrev pub moved_sinks : List Sink → (register : ℕ) → (to : Uv) → List Sink
moved_sinks sinks register to = slice_set sinks register (moved_sink sinks register to)
