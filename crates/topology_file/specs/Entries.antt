-- The entries of a topology file: each line that isn't blank has three numbers, the node that a
-- merge makes and the two that it joins, in either order. What a line denotes is determined by its
-- words, its comment cut off. The form is this project's choice; the nodes are numbered as in the
-- topologies of clock trees.
use Rattle.std.specs.Prelude.{ℕ, ◌+◌, ◌==◌, ◌&&◌, Bool, false, not, nat_lt, min, max, List, [], ◌∷◌, map, length}
use Rattle.std.specs.List.{list_all}
use Rattle.std.specs.Str.Parse.{digits_value}
use Rattle.cts_base.specs.NumberTexts.{is_plain_numeral}
use Rattle.cts_model.specs.declared.tree.Merge.{Merge}

-- three whole numbers without a sign, and the first is the node that is due
abbrev pub is_entry : (due : ℕ) → List (List ℕ) → Bool
is_entry due (made ∷ one ∷ other ∷ []) =
    is_plain_numeral made && is_plain_numeral one && is_plain_numeral other
    && (digits_value 10 made == due)
is_entry due _ = false

-- the merge of an entry, the lower node first
abbrev pub merge_of : List (List ℕ) → Merge
merge_of (made ∷ one ∷ other ∷ []) = record {
  first = min (digits_value 10 one) (digits_value 10 other);
  second = max (digits_value 10 one) (digits_value 10 other);
}
merge_of _ = record { first = 0; second = 0 }

-- the merges of entries, in order
abbrev pub merges_of : List (List (List ℕ)) → List Merge
merges_of entries = map merge_of entries

-- the node is a sink or made by these merges, and none of them joins it
abbrev pub is_open : (sinks : ℕ) → List Merge → (node : ℕ) → Bool
is_open sinks merges node =
    nat_lt node (sinks + length merges)
    && list_all (λ merge. not (merge.first == node) && not (merge.second == node)) merges

-- the merge joins two such nodes, the lower number first
abbrev pub joins_open : (sinks : ℕ) → List Merge → Merge → Bool
joins_open sinks merges merge =
    nat_lt merge.first merge.second && is_open sinks merges merge.first
    && is_open sinks merges merge.second
