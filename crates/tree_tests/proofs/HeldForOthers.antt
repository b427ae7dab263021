-- What a room holds of a merge for some sinks, it holds for others that are alike below it.
use Rattle.tree_tests.proofs.Vocabulary.{◌≡◌, ◌≢◌, ℕ, zero, suc, ◌+◌, ◌-◌, ◌<◌, List, [], ◌∷◌, ◌++◌, Contains, length, Some, Option, IsSomeAnd, slice_get, slice_set, filter_map, ℤ, ◌+ℤ◌, refl, sym, ap, subst, ◌∙◌, arith, length-set, All-cons, All-contains, All-nil, All-set, Contains-append_right, Sink, Merge, Show, Joins, IsDoubleReach, ShowsMerge, AreTreeSinks, IsTreeSink, IsTopology, numbers_below, sinks_below, numbers_below-merge, numbers_below-sink, some_and, IsRegion, HoldsJoined, HoldsMerge, IsRenewed, IsSinkSet, WorkState, merges_renewed, merges_set, set_kept, joined_low}
use Rattle.std.specs.List.{All, cons_option}
use Rattle.cts_model.specs.declared.tree.Show.TheVariants as shows

-- two rules that agree on each item pick the same
filter_map_same : {X Y : Type 0} (pick other : X → Option Y) (items : List X)
    → ((item : X) → Contains items item → other item ≡ pick item)
    → filter_map other items ≡ filter_map pick items
filter_map_same pick other [] agree = refl
filter_map_same pick other (first ∷ items) agree =
    ap (λ found. cons_option found (filter_map other items)) (agree first (zero, omega arith, refl))
    ∙ ap (cons_option (pick first)) (filter_map_same pick other items (λ item among.
    agree item (Contains-append_right (first ∷ []) items item among)))

module _ (sinks others : List Sink) (numbers : List ℕ)
    (agree : (number : ℕ) → Contains numbers number
    → slice_get others number ≡ slice_get sinks number) where
  -- the same pair shows the reach
  shows_for_others : (reach : ℤ) (show : Show) → ShowsMerge sinks numbers reach show
      → ShowsMerge others numbers reach show
  shows_for_others reach (shows.Pair first second) pair = record {
    ordered = pair.ordered;
    first_below = pair.first_below;
    second_below = pair.second_below;
    value = rw (agree first pair.first_below, agree second pair.second_below) pair.value;
  }
  shows_for_others reach (shows.Sink register) none = none
  shows_for_others reach shows.Root none = none

-- a merge is held for other sinks that are the same below it
held_for_others : (sinks others : List Sink) (merges : List Merge) (work : WorkState)
    (place : ℕ) → length others ≡ length sinks
    → ((number : ℕ) → Contains (numbers_below (length sinks) merges (length sinks + place)) number
    → slice_get others number ≡ slice_get sinks number)
    → HoldsMerge sinks merges work place → HoldsMerge others merges work place
held_for_others sinks others merges work place count agree held =
    let numbers = numbers_below (length sinks) merges (length sinks + place) in
    let back : length sinks ≡ length others = sym count in
    let below : numbers ≡ numbers_below (length others) merges (length others + place) =
    ap (λ n. numbers_below n merges (n + place)) back in
    let same : sinks_below sinks merges (length sinks + place)
    ≡ sinks_below others merges (length others + place) =
    sym (filter_map_same (slice_get sinks) (slice_get others) numbers agree)
    ∙ ap (filter_map (slice_get others)) below in
    record {
      reach = held.reach;
      region = held.region;
      show = held.show;
      reach_held = subst (λ n. slice_get work.tree.reach (n + place) ≡ Some held.reach) back
          held.reach_held;
      region_held = subst (λ n. slice_get work.regions (n + place) ≡ Some held.region) back
          held.region_held;
      show_held = held.show_held;
      is_reach = subst (λ list. IsDoubleReach list (held.reach +ℤ held.reach)) same held.is_reach;
      is_region = subst (λ list. IsRegion held.region list held.reach) same held.is_region;
      shows = subst (λ list. ShowsMerge others list held.reach held.show) below
          (shows_for_others sinks others numbers agree held.reach held.show held.shows);
    }

-- the merge at that place joins these two nodes
abbrev pub JoinsAt : List Merge → ℕ → (first second : ℕ) → Type 0
JoinsAt merges place first second =
    IsSomeAnd (slice_get merges place) (λ merge. (merge.first ≡ first) × (merge.second ≡ second))

-- whose sinks are then those of both
pub joined_numbers : (sinks : ℕ) (merges : List Merge) (place first second : ℕ)
    → IsTopology sinks merges → JoinsAt merges place first second
    → numbers_below sinks merges (sinks + place)
    ≡ numbers_below sinks merges first ++ numbers_below sinks merges second
joined_numbers sinks merges place first second topology joins =
    let (merge, here, is) = some_and (slice_get merges place)
    (λ merge. (merge.first ≡ first) × (merge.second ≡ second)) joins in
    numbers_below-merge sinks merges place merge here (topology.each place merge here)
    ∙ ap (λ node. numbers_below sinks merges node ++ numbers_below sinks merges merge.second) is.0
    ∙ ap (λ node. numbers_below sinks merges first ++ numbers_below sinks merges node) is.1

-- a merge of two sinks is held for others where these two are the same
pub held_of_two : (sinks others : List Sink) (merges : List Merge) (work : WorkState)
    (place first second : ℕ) → IsTopology (length sinks) merges → length others ≡ length sinks
    → first < length sinks → second < length sinks → JoinsAt merges place first second
    → slice_get others first ≡ slice_get sinks first
    → slice_get others second ≡ slice_get sinks second
    → HoldsMerge sinks merges work place → HoldsMerge others merges work place
held_of_two sinks others merges work place first second topology count first_in second_in joins one
    other =
    let n = length sinks in
    let numbers : numbers_below n merges (n + place) ≡ first ∷ second ∷ [] =
    joined_numbers n merges place first second topology joins
    ∙ ap (λ list. list ++ numbers_below n merges second)
    (numbers_below-sink n merges first first_in)
    ∙ ap (λ list. first ∷ list) (numbers_below-sink n merges second second_in) in
    held_for_others sinks others merges work place count (λ number among.
    All-contains Same (first ∷ second ∷ []) number
    (All-cons Same first (second ∷ []) one (All-cons Same second [] other (All-nil Same)))
    (subst (λ list. Contains list number) numbers among))
  where
    Same : ℕ → Type 0
    Same number = slice_get others number ≡ slice_get sinks number

-- a merge joins sinks and merges before it, which are held
pub joined_held : (sinks : List Sink) (merges : List Merge) (place : ℕ) (work : WorkState)
    → IsTopology (length sinks) merges
    → ((lower : ℕ) → lower < place → HoldsMerge sinks merges work lower)
    → (node : ℕ) → node ≡ length sinks + place → HoldsJoined sinks merges work node
joined_held sinks merges place work topology held node at merge lower here joins =
    let same : node - length sinks ≡ place = omega (arith, at) in
    held lower (omega (
      arith,
      joined_low (length sinks) merges place merge (length sinks + lower) topology
          (subst (λ n. slice_get merges n ≡ Some merge) same here) joins,
    ))

-- once the first of four sinks is set and its merge renewed, both lower merges are held
pub held_lower : (sinks others : List Sink) (merges : List Merge) (sink : Sink)
    (work between new : WorkState) → length sinks ≡ 4 → IsTopology 4 merges
    → others ≡ slice_set sinks 0 sink → JoinsAt merges 1 2 3 → HoldsMerge sinks merges work 1
    → IsSinkSet 0 sink work between → IsRenewed others merges 0 between new
    → (lower : ℕ) → lower < 2 → HoldsMerge others merges new lower
held_lower sinks others merges sink work between new four topology is joins held set renewed
    zero low = renewed.held
held_lower sinks others merges sink work between new four topology is joins held set renewed
    (suc zero) low =
    let count : length others ≡ length sinks = ap length is ∙ length-set sinks 0 sink in
    merges_renewed renewed 1 (λ apart. held_of_two sinks others merges between 1 2 3
    (subst (λ n. IsTopology n merges) (sym four) topology) count
    (omega (arith, four)) (omega (arith, four)) joins
    (ap (λ list. slice_get list 2) is
    ∙ set_kept sinks 0 2 sink (λ same. absurd (omega (arith, same))))
    (ap (λ list. slice_get list 3) is
    ∙ set_kept sinks 0 3 sink (λ same. absurd (omega (arith, same))))
    (merges_set set sinks merges 1 (omega (arith, four)) held))
held_lower sinks others merges sink work between new four topology is joins held set renewed
    (suc (suc lower)) low = absurd (omega (arith, low))

-- with another sink at one place they are tree sinks still
pub tree_sinks_set : (sinks others : List Sink) (place : ℕ) (sink : Sink)
    → others ≡ slice_set sinks place sink → IsTreeSink sink → AreTreeSinks sinks
    → AreTreeSinks others
tree_sinks_set sinks others place sink is valid are = record {
  some = omega (arith, ap length is, length-set sinks place sink, are.some);
  few = omega (arith, ap length is, length-set sinks place sink, are.few);
  each = subst (All IsTreeSink) (sym is) (All-set IsTreeSink sinks place sink valid are.each);
}
