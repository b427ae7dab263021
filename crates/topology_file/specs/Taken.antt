-- What the reader keeps of the lines so far.
use Rattle.std.specs.Prelude.{◌≡◌, ◌<◌, ◌+◌, ℕ, true, false, List, [], ◌∷◌, ◌++◌, length, slice_get, slice_index_or, slice_set, take, Some}
use Rattle.cts_model.specs.declared.tree.Merge.{Merge}
use Rattle.cts_model.specs.Vocabulary.{AreMarked, IsMerge, entries_in}
use Rattle.topology_file.specs.declared.joining.Joining.{Joining}
use Rattle.topology_file.specs.Entries.{merges_of}
use Rattle.topology_file.specs.TopologyTexts.{AreEntries}

-- the merges are those of the lines, each of the node that is due and two open ones, and the nodes
-- that they join are marked
pub record HasTaken (sinks : ℕ) (joining : Joining) (lines : List (List ℕ)) : Type 0 where
  pub sinks_are : joining.sinks ≡ sinks
  pub merges_are : joining.merges ≡ merges_of (entries_in lines)
  pub each : (place : ℕ) (merge : Merge) → slice_get joining.merges place ≡ Some merge
      → IsMerge joining.sinks (take place joining.merges) merge
  pub marked : AreMarked joining.merges joining.joined.items
  pub form : AreEntries sinks (entries_in lines)

-- the merge joins two nodes that are made and aren't marked, the lower first
pub record IsOfOpen (joining : Joining) (merge : Merge) : Type 0 where
  pub ordered : merge.first < merge.second
  pub made : merge.second < joining.sinks + length joining.merges
  pub first : slice_index_or joining.joined.items merge.first false ≡ false
  pub second : slice_index_or joining.joined.items merge.second false ≡ false

-- a merge is taken in
pub record TakesMerge (old new : Joining) (merge : Merge) : Type 0 where
  pub sinks : new.sinks ≡ old.sinks
  pub merges : new.merges ≡ old.merges ++ merge ∷ []
  pub joined : new.joined.items
      ≡ slice_set (slice_set old.joined.items merge.first true) merge.second true
