-- What a tree is whose nodes have their places: Boese and Kahng 1992; Chao and others 1992. Places,
-- lengths and reaches are in grid steps.
use Rattle.std.specs.Prelude.{◌≡◌, ◌↔◌, ℕ, ◌<◌, ◌+◌, ◌*◌, ◌^◌, ℤ, pos, ◌≤ℤ◌, Bool, List, All, Some, length, slice_get, slice_index_or}
use Rattle.cts_model.specs.declared.place.Sink.{Sink}
use Rattle.cts_model.specs.declared.place.Uv.{Uv}
use Rattle.cts_model.specs.declared.tree.Merge.{Merge}
use Rattle.cts_model.specs.declared.tree.Show.{Show}
use Rattle.cts_model.specs.declared.tree.Show.TheVariants.{Root}
use Rattle.cts_model.specs.declared.tree.Tree.{Tree}
use Rattle.cts_model.specs.Vocabulary.{AreChosen, IsSourceReach, IsEmbedding, embedding_of, IsBelow, IsMultipleOf, IsUvBelow, IsUvMultipleOf, rotated, AreReaches, AreShownBy, root_of, source_of}
use Rattle.merge_up.specs.Works.{WorkState}

-- the source as sinks are: its place is a whole number of 8 grid steps
pub record IsTreeSource (source : Uv) : Type 0 where
  pub below : IsUvBelow (10 ^ 31) source
  pub multiple : IsUvMultipleOf 8 source

-- the reach of each node
abbrev pub reach_in : Tree → ℕ → ℤ
reach_in tree node = slice_index_or tree.reach node (pos 0)

-- the tree embeds the topology, each node at its chosen place with the least reach, and the shows
-- are those of its reaches; the root shows the source's exactly where its edge has no length
pub record IsPlacedTree (sinks : List Sink) (merges : List Merge) (source : Uv) (tree : Tree)
    (shows : List Show) : Type 0 where
  pub embedded : IsEmbedding 1 sinks merges source (embedding_of tree)
  pub reaches : AreReaches (length sinks) merges (embedding_of tree).length (reach_in tree)
  pub chosen : AreChosen sinks merges (reach_in tree) (embedding_of tree)
  pub source_reach : IsSourceReach sinks source (reach_in tree (root_of (length sinks)))
      (reach_in tree (source_of (length sinks)))
  pub shown : AreShownBy sinks merges source (reach_in tree) shows
  pub root_shows : slice_get shows (length merges) ≡ Some Root
      ↔ ((embedding_of tree).length (root_of (length sinks)) ≡ pos 0)

-- an edge's length is a whole number of 4 grid steps, so that half a detour is one of 2
pub record IsEdgeLength (length : ℤ) : Type 0 where
  pub least : pos 0 ≤ℤ length
  pub below : IsBelow (10 ^ 32) length
  pub multiple : IsMultipleOf 4 length

-- the numbers of a tree stay below 10^32, and its places so far below that detours do too; places
-- are whole numbers of 4 grid steps in rotated coordinates, and so are distances
pub record HasTreeNumbers (tree : Tree) : Type 0 where
  pub reaches : All (IsBelow (10 ^ 32)) tree.reach
  pub reach_multiples : All (IsMultipleOf 4) tree.reach
  pub places : All (λ place. IsUvBelow (5 * 10 ^ 31) (rotated place)) tree.place
  pub place_multiples : All (λ place. IsUvMultipleOf 4 (rotated place)) tree.place
  pub lengths : All IsEdgeLength tree.length

-- the same work with this tree, these shows and marks of what is settled
abbrev pub merged_as : Tree → List Show → List Bool → WorkState → WorkState
merged_as tree shows settled work =
    record work { tree = tree; shows = shows; settled = settled }

-- the reaches, regions and shows of sinks and merges stay, and so does the count of renewals
pub record StaysMerged (old new : WorkState) : Type 0 where
  pub rest : new ≡ merged_as new.tree new.shows new.settled old
  pub reaches : (node : ℕ) → node < source_of old.sinks
      → slice_get new.tree.reach node ≡ slice_get old.tree.reach node
  pub shows : (place : ℕ) → place + 1 < old.sinks
      → slice_get new.shows place ≡ slice_get old.shows place
