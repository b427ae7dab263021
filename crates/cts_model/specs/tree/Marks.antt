-- Marks of the nodes that merges have joined, one for each node.
use Rattle.std.specs.Prelude.{◌≡◌, ◌≢◌, ◌<◌, ◌↔◌, ℕ, Bool, false, List, length, All, slice_index_or}
use Rattle.cts_model.specs.Types.{Merge}

-- the merge doesn't join the node
abbrev pub IsUnjoined : (node : ℕ) → Merge → Type 0
IsUnjoined node merge = (merge.first ≢ node) × (merge.second ≢ node)

-- exactly the nodes that these merges join are marked
abbrev pub AreMarked : List Merge → (marks : List Bool) → Type 0
AreMarked merges marks = (node : ℕ) → node < length marks
    → (slice_index_or marks node false ≡ false) ↔ (All (IsUnjoined node) merges)
