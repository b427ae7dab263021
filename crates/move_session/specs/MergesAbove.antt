-- The merges of a topology that have a sink below them, which are all that a move of the sink
-- changes. Boese and Kahng 1992; Chao and others 1992.
use Rattle.std.specs.Prelude.{◌≡◌, ◌⊎◌, ◌+◌, ◌<◌, ℕ, Bool, List, Contains, IsSomeAnd, length, nat_eq, slice_get}
use Rattle.std.specs.List.{count_by, list_any, range_with_len}
use Rattle.cts_model.specs.declared.place.Sink.{Sink}
use Rattle.cts_model.specs.declared.tree.Merge.{Merge}
use Rattle.cts_model.specs.Vocabulary.{Joins, numbers_below}
use Rattle.merge_up.specs.Merging.{HoldsMerge, HoldsSinks, IsRenewed, KeepsEnds}
use Rattle.merge_up.specs.Works.{WorkState}

-- the merge at that place has the sink below it
abbrev pub is_above : (sinks : ℕ) → List Merge → (register place : ℕ) → Bool
is_above sinks merges register place =
    list_any (nat_eq register) (numbers_below sinks merges (sinks + place))

-- how many merges have the sink below them
abbrev pub merges_above : (sinks : ℕ) → List Merge → (register : ℕ) → ℕ
merges_above sinks merges register =
    count_by (is_above sinks merges register) (range_with_len 0 (length merges))

-- the merge at that place is held, and its furthest sinks are kept beside it
abbrev pub HoldsWithEnds : List Sink → List Merge → WorkState → (place : ℕ) → Type 0
HoldsWithEnds sinks merges work place =
    HoldsMerge sinks merges work place × KeepsEnds sinks merges work place

-- the work holds all the sinks, and each merge with its furthest sinks that doesn't have this sink
-- below it
pub record IsMergedBeside (sinks : List Sink) (merges : List Merge) (register : ℕ)
    (work : WorkState) : Type 0 where
  pub count : work.sinks ≡ length sinks
  pub of_sinks : HoldsSinks sinks work
  pub of_merges : (place : ℕ) → place < length merges
      → (Contains (numbers_below (length sinks) merges (length sinks + place)) register → ⊥)
      → HoldsWithEnds sinks merges work place

-- the merge at that place joins the node
abbrev pub JoinsAt : List Merge → (place node : ℕ) → Type 0
JoinsAt merges place node = IsSomeAnd (slice_get merges place) (λ merge. Joins merge node)

-- the merge joins the node: it is renewed, and is the node to look for from here on
pub record IsStepUp (sinks : List Sink) (merges : List Merge) (place node : ℕ)
    (old new : WorkState) (next : ℕ) : Type 0 where
  pub joins : JoinsAt merges place node
  pub renewed : IsRenewed sinks merges place old new
  pub up : next ≡ length sinks + place

-- the merge joins other nodes, and nothing changes
pub record IsPassed (merges : List Merge) (place node : ℕ) (old new : WorkState)
    (next : ℕ) : Type 0 where
  pub apart : JoinsAt merges place node → ⊥
  pub stays : new ≡ old
  pub same : next ≡ node

-- a merge is renewed exactly where it joins the node
abbrev pub IsStep : List Sink → List Merge → (place node : ℕ) → (old new : WorkState)
    → (next : ℕ) → Type 0
IsStep sinks merges place node old new next =
    IsStepUp sinks merges place node old new next ⊎ IsPassed merges place node old new next
