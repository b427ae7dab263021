-- Lists of parents, as they are filled merge by merge.
use Rattle.cert_check.proofs.Vocabulary.{◌≡◌, ◌⊎◌, ◌<◌, ◌≤◌, ◌+◌, ◌*◌, ℕ, List, length, set, Some, inl, inr, refl, sym, ap, subst, ◌∙◌, arith, slice_get, cases_lt, get_or_default, get_or-set_same, get_or-set_other, length-set, slice_get_within, merge_at, merge_here, Merge, IsParent, IsTopology, Joins, root_of, source_of, has_parent, joined_by, made_parent, one_parent, parent_stands, first_made, second_made, some_and, AreParents, parent_at}

-- there is an entry for each node but the source, and the nodes have theirs whose parents are made
-- before a place
pub record AreParentsBefore (sinks : ℕ) (merges : List Merge) (place next : ℕ) (parents : List ℕ)
    : Type 0 where
  pub parent : next ≡ sinks + place
  pub all : length parents + 1 ≡ 2 * sinks
  pub filled : (node up : ℕ) → IsParent sinks merges node up → up < sinks + place
      → parent_at parents node ≡ up

module _ {sinks : ℕ} {merges : List Merge} (topology : IsTopology sinks merges) where
  -- there is an entry for each node that a merge joins
  entries_low : (place next : ℕ) (merge : Merge) (parents : List ℕ)
      → slice_get merges place ≡ Some merge → AreParentsBefore sinks merges place next parents
      → (merge.first < length parents) × (merge.second < length parents)
  entries_low place next merge parents here before =
      let one = first_made sinks merges topology.each place merge here in
      let two = second_made sinks merges topology.each place merge here in
      let within = slice_get_within merges place merge here in
      (omega (arith, topology.all, before.all), omega (arith, topology.all, before.all))

  pub entries_here : {place next : ℕ} {parents : List ℕ} → place < length merges
      → AreParentsBefore sinks merges place next parents
      → ((merge_at merges place).first < length parents)
      × ((merge_at merges place).second < length parents)
  entries_here {place = place} {next = next} {parents = parents} within =
      entries_low place next (merge_at merges place) parents (merge_here merges place within)

  -- one more merge
  pub parents_more : (place next : ℕ) (merge : Merge) (parents : List ℕ)
      → slice_get merges place ≡ Some merge → AreParentsBefore sinks merges place next parents
      → AreParentsBefore sinks merges (place + 1) (next + 1)
      (set (set parents merge.first next) merge.second next)
  parents_more place next merge parents here before = record {
    parent = omega (arith, before.parent);
    all = omega (
      arith,
      before.all,
      length-set parents merge.first next,
      length-set middle merge.second next,
    );
    filled = λ node up is below. by_parent node up is (cases_lt up (sinks + place)) below;
  }
    where
      middle : List ℕ
      middle = set parents merge.first next

      low : (merge.first < length parents) × (merge.second < length parents)
      low = entries_low place next merge parents here before

      high : merge.second < length middle
      high = omega (arith, low.1, length-set parents merge.first next)

      ordered : merge.first < merge.second
      ordered = (topology.each place merge here).ordered

      -- nodes with other parents are other nodes
      other_node : (node up child : ℕ) → IsParent sinks merges node up
          → IsParent sinks merges child (sinks + place) → up < sinks + place → node ≡ child → ⊥
      other_node node up child is also earlier same =
          let up_same = one_parent topology node up (sinks + place) is
          (subst (λ n. IsParent sinks merges n (sinks + place)) (sym same) also) in
          omega arith

      -- of what the merge joins
      joined : (node up : ℕ) → next ≡ up → Joins merge node
          → parent_at (set middle merge.second next) node ≡ up
      joined node up same (inl is) = subst (λ n. parent_at (set middle merge.second next) n ≡ up) is
          (get_or-set_other middle merge.second merge.first next 0
          (λ one. omega (arith, ordered))
          ∙ get_or-set_same parents merge.first next 0 low.0 ∙ same)
      joined node up same (inr is) = subst (λ n. parent_at (set middle merge.second next) n ≡ up) is
          (get_or-set_same middle merge.second next 0 high ∙ same)

      by_parent : (node up : ℕ) → IsParent sinks merges node up
          → (up < sinks + place) ⊎ (sinks + place ≤ up) → up < sinks + (place + 1)
          → parent_at (set middle merge.second next) node ≡ up
      by_parent node up is (inl earlier) below =
          get_or-set_other middle merge.second node next 0 (other_node node up merge.second is
          (made_parent sinks merges place merge here merge.second (inr refl)) earlier)
          ∙ get_or-set_other parents merge.first node next 0 (other_node node up merge.first is
          (made_parent sinks merges place merge here merge.first (inl refl)) earlier)
          ∙ before.filled node up is earlier
      by_parent node up is (inr later) below =
          let same : up ≡ sinks + place = omega arith in
          joined node up (omega (arith, before.parent)) (joined_by topology node place merge here
          (subst (IsParent sinks merges node) same is))

  -- after the last merge the root's parent is the source
  pub parents_all : (place next : ℕ) (parents : List ℕ) → length merges ≤ place
      → place ≤ length merges → AreParentsBefore sinks merges place next parents
      → AreParents sinks merges (set parents (root_of sinks) next)
  parents_all place next parents past within before = record {
    topology = topology;
    all = long;
    nodes = λ node default low.
        let is = get_or_default (set parents (root_of sinks) next) node default 0 low in
        let (up, parent) = has_parent topology node (omega (arith, long, low)) in
        let stands = parent_stands topology node up parent in
        omega (arith, is, entry node up parent, stands, topology.all);
    each = entry;
  }
    where
      long : length (set parents (root_of sinks) next) ≡ source_of sinks
      long = omega (arith, before.all, topology.all, length-set parents (root_of sinks) next)

      low : root_of sinks < length parents
      low = omega (arith, before.all, topology.all)

      entry : (node up : ℕ) → IsParent sinks merges node up
          → parent_at (set parents (root_of sinks) next) node ≡ up
      entry node up (inl (at, is, found)) =
          let (merge, here, joins) = some_and (slice_get merges at)
          (λ merge. Joins merge node) found in
          let made = slice_get_within merges at merge here in
          get_or-set_other parents (root_of sinks) node next 0
          (λ root. let same = one_parent topology node up (source_of sinks)
          (inl (at, is, found)) (inr (root, refl)) in omega (arith, topology.all))
          ∙ before.filled node up (inl (at, is, found)) (omega arith)
      entry node up (inr (is_root, is)) =
          ap (parent_at (set parents (root_of sinks) next)) is_root
          ∙ get_or-set_same parents (root_of sinks) next 0 low
          ∙ (let same : next ≡ up = omega (arith, before.parent, topology.all) in same)
