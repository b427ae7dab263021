-- Pairs of clusters by how cheap their merging is.
use Rattle.std.specs.Prelude.{◌≡◌, ◌⊎◌, Option, Some, IsSomeAnd, List, ◌∷◌, ◌++◌, slice_get}
use Rattle.std.specs.List.Sorted.{IsPermutation}
use Rattle.std.specs.Option.{option_to_list}
use Rattle.std.specs.declared.cmp.Ordering.{Ordering}
use Rattle.std.specs.Ordering.{nat_cmp, int_cmp, ordering_then}
use Rattle.cts_model.specs.declared.tree.Merge.{Merge}
use Rattle.cts_model.specs.Vocabulary.{IsCheaper}
use Rattle.topology.specs.declared.pair.Pair.{Pair}

-- the merge of the two clusters
abbrev pub merge_of : Pair → Merge
merge_of pair = record { first = pair.first; second = pair.second }

-- the one pair is to be merged before the other
abbrev pub IsBefore : Pair → Pair → Type 0
IsBefore pair other = IsCheaper pair.cost (merge_of pair) other.cost (merge_of other)

-- there is a pair, and that one isn't to be merged before it
abbrev pub IsAtMost : Option Pair → Pair → Type 0
IsAtMost kept pair = IsSomeAnd kept (λ least. ¬ IsBefore pair least)

-- the one pair is there, and is to be merged before the other or that one isn't there
abbrev pub ComesFirst : Option Pair → Option Pair → Type 0
ComesFirst pair kept = IsSomeAnd pair (λ first. ¬ IsAtMost kept first)

-- it is one of the two, and neither of them is to be merged before it
pub record IsCheaperOf (one other least : Option Pair) : Type 0 where
  pub either : (least ≡ one) ⊎ (least ≡ other)
  pub first : (pair : Pair) → one ≡ Some pair → IsAtMost least pair
  pub second : (pair : Pair) → other ≡ Some pair → IsAtMost least pair

-- the order of a queue, whose greatest pair is the one that is merged first
abbrev pub by_turn : Pair → Pair → Ordering
by_turn pair other = ordering_then (int_cmp pair.cost other.cost)
    (ordering_then (nat_cmp pair.first other.first) (nat_cmp pair.second other.second))

-- another pair, if there is one, took the place of the one on top
pub record IsReplaced (old new : List Pair) (pair : Option Pair) : Type 0 where
  pub top : Pair
  pub rest : List Pair
  pub on_top : slice_get old 0 ≡ Some top
  pub before : IsPermutation old (top ∷ rest)
  pub after : IsPermutation (option_to_list pair ++ rest) new
