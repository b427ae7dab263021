-- What an embedding is judged by, place by place: Boese and Kahng 1992; Chao and others 1992.
use Rattle.std.specs.Prelude.{◌≡◌, ◌<◌, ℕ, Bool, false, List, IfSome, slice_get, slice_index_or, take}
use Rattle.cts_model.specs.declared.place.Sink.{Sink}
use Rattle.cts_model.specs.declared.tree.Merge.{Merge}
use Rattle.cts_model.specs.Vocabulary.{Embedding, rotated, IsMerge}

-- the sink of that number stands at its given place
abbrev pub StandsAt : List Sink → Embedding → (node : ℕ) → Type 0
StandsAt sinks tree node = IfSome (slice_get sinks node)
    (λ sink. rotated (tree.place node) ≡ sink.at)

-- the merge at a place joins two nodes that are there and that none before it joined
abbrev pub JoinsAt : (sinks : ℕ) → List Merge → (place : ℕ) → Type 0
JoinsAt sinks merges place = IfSome (slice_get merges place) (IsMerge sinks (take place merges))

-- of so many nodes the merge joins two that aren't marked, the lower number first
pub record IsOfUnmarked (made : ℕ) (marks : List Bool) (merge : Merge) : Type 0 where
  pub ordered : merge.first < merge.second
  pub made_before : merge.second < made
  pub first : slice_index_or marks merge.first false ≡ false
  pub second : slice_index_or marks merge.second false ≡ false
