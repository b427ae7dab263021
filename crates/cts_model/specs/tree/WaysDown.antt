-- Ways down a clock tree, and the reaches of its nodes. Boese and Kahng 1992; Chao and others 1992.
-- An edge has the number of its lower node.
use Rattle.std.specs.Prelude.{◌≡◌, ℕ, ℤ, pos, ◌+ℤ◌, List, [], ◌∷◌, length, Some, slice_get}
use Rattle.cts_model.specs.Types.{Sink, Merge}
use Rattle.cts_model.specs.tree.Topologies.{IsParent}

-- the nodes lead down from the one node to the other: each is the parent of the next
abbrev pub LeadsDown : (sinks : ℕ) → List Merge → (from : ℕ) → (way : List ℕ) → (to : ℕ) → Type 0
LeadsDown sinks merges from [] to = from ≡ to
LeadsDown sinks merges from (node ∷ way) to = IsParent sinks merges node from
    × LeadsDown sinks merges node way to

-- how long the wire is that leads down through these nodes
abbrev pub wire_along : (lengths : ℕ → ℤ) → (way : List ℕ) → ℤ
wire_along lengths [] = pos 0
wire_along lengths (node ∷ way) = lengths node +ℤ wire_along lengths way

-- the reach of a node: how long the wire from it down to any of its sinks is, with that sink's
-- offset
abbrev pub IsReachDown : List Sink → List Merge → (lengths : ℕ → ℤ) → (node : ℕ) → (reach : ℤ)
    → Type 0
IsReachDown sinks merges lengths node reach = (way : List ℕ) (register : ℕ) (sink : Sink)
    → LeadsDown (length sinks) merges node way register → slice_get sinks register ≡ Some sink
    → reach ≡ wire_along lengths way +ℤ sink.offset
