-- What the judgement of reaches compares in one tree. Boese and Kahng 1992;
-- Chao and others 1992.
use Rattle.std.specs.Prelude.{◌≡◌, ◌+◌, ℕ, ℤ, ◌-ℤ◌, List, length, IfSome, IsSomeAnd, slice_get}
use Rattle.cts_model.specs.declared.place.Sink.{Sink}
use Rattle.cts_model.specs.declared.place.Uv.{Uv}
use Rattle.cts_model.specs.declared.report.Report.{Report}
use Rattle.cts_model.specs.declared.tree.Tree.{Tree}
use Rattle.cts_model.specs.Vocabulary.{number_at, ShowsMerge, ShowsSource, numbers_below, root_of, source_of}

-- with this wire down to each node, those to a register and to the first one differ as their
-- offsets do
abbrev pub IsLevel : List Sink → (wire : ℕ → ℤ) → (register : ℕ) → Type 0
IsLevel sinks wire register = IfSome (slice_get sinks register)
    (λ sink. IfSome (slice_get sinks 0)
    (λ first. wire register -ℤ wire 0 ≡ first.offset -ℤ sink.offset))

-- the edge down to the lower node is as long as the two reaches differ
abbrev pub IsReachOver : Tree → (node below : ℕ) → Type 0
IsReachOver tree node below =
    number_at tree.length below ≡ number_at tree.reach node -ℤ number_at tree.reach below

-- so it is from a merge's node down to both that it joins, and its show gives its reach
pub record IsMergeShown (sinks : List Sink) (report : Report) (place : ℕ) : Type 0 where
  pub first : IfSome (slice_get report.topology.merges place)
      (λ merge. IsReachOver report.tree (length sinks + place) merge.first)
  pub second : IfSome (slice_get report.topology.merges place)
      (λ merge. IsReachOver report.tree (length sinks + place) merge.second)
  pub shown : IsSomeAnd (slice_get report.shows place) (ShowsMerge sinks
      (numbers_below (length sinks) report.topology.merges (length sinks + place))
      (number_at report.tree.reach (length sinks + place)))

-- and from the source down to the root
pub record IsSourceShown (sinks : List Sink) (source : Uv) (report : Report) : Type 0 where
  pub root : IsReachOver report.tree (source_of (length sinks)) (root_of (length sinks))
  pub shown : IsSomeAnd (slice_get report.shows (length report.topology.merges))
      (ShowsSource sinks source (number_at report.tree.reach (root_of (length sinks)))
      (number_at report.tree.reach (source_of (length sinks))))
