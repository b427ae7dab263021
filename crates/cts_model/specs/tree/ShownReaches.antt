-- What shows that a node's reach is the least that any tree has there: the two sinks, or the sink
-- and the source, that are furthest apart. Boese and Kahng 1992; Chao and others 1992. The reach of
-- a node is how long the wire from it down to any of its sinks is, with that sink's offset.
use Rattle.std.specs.Prelude.{◌≡◌, ℕ, ◌<◌, ◌≤◌, ◌+◌, ℤ, ◌+ℤ◌, ◌-ℤ◌, List, length, Contains, IfSome, IsSomeAnd, slice_get}
use Rattle.cts_model.specs.Types.{Sink, Uv, Merge, Show}
use Rattle.cts_model.specs.declared.tree.Show.TheVariants as shows
use Rattle.cts_model.specs.placement.Points.{rotated_distance}
use Rattle.cts_model.specs.tree.Regions.{span}
use Rattle.cts_model.specs.tree.Topologies.{IsParent, numbers_below, root_of, source_of}

-- twice the reach is the span of two of the numbered sinks
pub record IsPairShow (sinks : List Sink) (numbers : List ℕ) (reach : ℤ)
    (first second : ℕ) : Type 0 where
  pub ordered : first ≤ second
  pub first_below : Contains numbers first
  pub second_below : Contains numbers second
  pub value : IsSomeAnd (slice_get sinks first) (λ one. IsSomeAnd (slice_get sinks second)
      (λ other. reach +ℤ reach ≡ span one other))

-- a pair of a merge's own sinks shows its reach
abbrev pub ShowsMerge : List Sink → (numbers : List ℕ) → (reach : ℤ) → Show → Type 0
ShowsMerge sinks numbers reach (shows.Pair first second) =
    IsPairShow sinks numbers reach first second
ShowsMerge sinks numbers reach (shows.Sink register) = ⊥
ShowsMerge sinks numbers reach shows.Root = ⊥

-- a sink shows the source's reach by its distance and offset, and the root by its own reach, where
-- its edge has no length
abbrev pub ShowsSource : List Sink → (source : Uv) → (root reach : ℤ) → Show → Type 0
ShowsSource sinks source root reach (shows.Pair first second) = ⊥
ShowsSource sinks source root reach (shows.Sink register) = IsSomeAnd (slice_get sinks register)
    (λ sink. reach ≡ sink.offset +ℤ rotated_distance source sink.at)
ShowsSource sinks source root reach shows.Root = reach ≡ root

-- a sink's reach is its offset, and each merge and the source has a show
pub record AreShown (sinks : List Sink) (merges : List Merge) (source : Uv)
    (reach : ℕ → ℤ) : Type 0 where
  pub of_sinks : (register : ℕ) → IfSome (slice_get sinks register)
      (λ sink. reach register ≡ sink.offset)
  pub of_merges : (place : ℕ) → place < length merges → (show : Show)
      × ShowsMerge sinks (numbers_below (length sinks) merges (length sinks + place))
      (reach (length sinks + place)) show
  pub of_source : (show : Show) × ShowsSource sinks source (reach (root_of (length sinks)))
      (reach (source_of (length sinks))) show

-- each edge is as long as its ends' reaches differ
abbrev pub AreReaches : (sinks : ℕ) → List Merge → (length reach : ℕ → ℤ) → Type 0
AreReaches sinks merges length reach = (node parent : ℕ) → IsParent sinks merges node parent
    → length node ≡ reach parent -ℤ reach node

-- each merge in order and then the source is shown by its entry of the list
pub record AreShownBy (sinks : List Sink) (merges : List Merge) (source : Uv) (reach : ℕ → ℤ)
    (shows : List Show) : Type 0 where
  pub all : length shows ≡ length merges + 1
  pub of_sinks : (register : ℕ) → IfSome (slice_get sinks register)
      (λ sink. reach register ≡ sink.offset)
  pub of_merges : (place : ℕ) → place < length merges → IsSomeAnd (slice_get shows place)
      (ShowsMerge sinks (numbers_below (length sinks) merges (length sinks + place))
      (reach (length sinks + place)))
  pub of_source : IsSomeAnd (slice_get shows (length merges))
      (ShowsSource sinks source (reach (root_of (length sinks))) (reach (source_of (length sinks))))
