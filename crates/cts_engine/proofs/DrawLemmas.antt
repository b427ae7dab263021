-- The wires of a tree, drawn merge by merge.
use Rattle.std.proofs.Common.{IsSomeAnd, Option, None}
use Rattle.cts_model.specs.Vocabulary.{Embedding}
use Rattle.outcomes.specs.Syntheses.{EachEdge}
use Rattle.cts_engine.proofs.Vocabulary.{ℤ, take, Point, ◌≡◌, ◌≢◌, ◌⊎◌, ◌<◌, ◌≤◌, ◌+◌, ◌*◌, ℕ, List, length, get_or, Some, inl, inr, refl, sym, ap, subst, ◌∙◌, arith, All, slice_get, cases_eq, cases_lt, get_or-set_same, get_or-set_other, length-set, slice_get_within, slice_get-get_or, get_or_from_slice_get, Merge, Tree, Wire, embedding_of, IsSmallWire, IsParent, IsTopology, Joins, root_of, source_of, joined_by, made_parent, one_parent, first_made, merge_at, merge_here, second_made, some_and, AreDrawn, IsEdgeDrawn, IsWireOf}

-- the wire at the node's number is drawn from the parent
abbrev pub HasWire : Tree → (node parent : ℕ) → List Wire → Type 0
HasWire tree node parent wires =
    IsSomeAnd (slice_get wires node) (IsWireOf (embedding_of tree) node parent)

-- what is there has what each such thing has
some_then : {X : Type 0} (found : Option X) {Has Gets : X → Type 0} → IsSomeAnd found Has
    → ((x : X) → Has x → Gets x) → IsSomeAnd found Gets
some_then (Some x) has gets = gets x has
some_then None has gets = absurd has

-- an edge whose wire is this one has what each edge has
pub edge_wire : (Holds : Point → Point → ℤ → List Point → Type 0) (sinks : ℕ) (merges : List Merge)
    (tree : Embedding) (wires : List Wire) → EachEdge Holds sinks merges tree wires
    → (node parent : ℕ) (wire : Wire) → IsParent sinks merges node parent
    → slice_get wires node ≡ Some wire
    → Holds (tree.place parent) (tree.place node) (tree.length node) (take wire.used wire.corners)
edge_wire Holds sinks merges tree wires each node parent wire joins found =
    subst (λ o. IsSomeAnd o (λ wire. Holds (tree.place parent) (tree.place node) (tree.length node)
    (take wire.used wire.corners))) found (each node parent joins)

-- there is a wire for each node, and those are drawn whose parents are made before a place
pub record AreDrawnBefore (sinks : ℕ) (merges : List Merge) (tree : Tree) (place next : ℕ)
    (wires : List Wire) : Type 0 where
  pub parent : next ≡ sinks + place
  pub all : length wires + 1 ≡ 2 * sinks
  pub small : All IsSmallWire wires
  pub drawn : (node up : ℕ) → IsParent sinks merges node up → up < sinks + place
      → HasWire tree node up wires

-- the merge that is read at a place
pub read_merge : (items merges : List Merge) (place : ℕ) → items ≡ merges
    → place < length items → slice_get merges place ≡ Some (merge_at items place)
read_merge items merges place same here = search (arith, merge_at, merge_here)

-- the root's parent is the source
pub root_parent : (sinks : ℕ) (merges : List Merge)
    → IsParent sinks merges (root_of sinks) (source_of sinks)
root_parent sinks merges = inr (refl, refl)

module _ {tree : Tree} {node parent : ℕ} {old new : List Wire}
    (drawn : IsEdgeDrawn tree node parent old new) (within : node < length old) where
  -- no wire is lost
  pub drawn_all : length new ≡ length old
  drawn_all = ap length drawn.rest ∙ length-set old node drawn.wire

  -- all wires stay small
  pub drawn_small : All IsSmallWire old → All IsSmallWire new
  drawn_small small place default here = at (cases_eq place node)
    where
      at : (place ≡ node) ⊎ (place ≡ node → ⊥) → IsSmallWire (get_or new place default)
      at (inl same) = subst (λ n. IsSmallWire (get_or new n default)) (sym same)
          (subst IsSmallWire (sym (ap (λ wires. get_or wires node default) drawn.rest
          ∙ get_or-set_same old node drawn.wire default within)) drawn.small)
      at (inr apart) = subst IsSmallWire (sym (ap (λ wires. get_or wires place default) drawn.rest
          ∙ get_or-set_other old node place drawn.wire default apart))
          (small place default (omega (arith, here, drawn_all)))

  -- the node has its wire
  pub drawn_here : HasWire tree node parent new
  drawn_here = subst (λ found. IsSomeAnd found (IsWireOf (embedding_of tree) node parent))
      (sym (slice_get-get_or new node drawn.wire (omega (arith, within, drawn_all))
      ∙ ap Some (ap (λ wires. get_or wires node drawn.wire) drawn.rest
      ∙ get_or-set_same old node drawn.wire drawn.wire within))) drawn.is

  -- and the others keep theirs
  pub drawn_other : (other up : ℕ) → other ≢ node → HasWire tree other up old
      → HasWire tree other up new
  drawn_other other up apart had =
      let (wire, found, is) = some_and (slice_get old other)
      (IsWireOf (embedding_of tree) other up) had in
      let here = slice_get_within old other wire found in
      subst (λ found. IsSomeAnd found (IsWireOf (embedding_of tree) other up))
      (sym (slice_get-get_or new other wire (omega (arith, here, drawn_all))
      ∙ ap Some (ap (λ wires. get_or wires other wire) drawn.rest
      ∙ get_or-set_other old node other drawn.wire wire apart
      ∙ get_or_from_slice_get old other wire wire found))) is

module _ {sinks : ℕ} {merges : List Merge} (topology : IsTopology sinks merges) {tree : Tree} where
  -- there is a wire for each node that a merge joins
  pub joined_low : (place next : ℕ) (merge : Merge) (wires : List Wire)
      → slice_get merges place ≡ Some merge → AreDrawnBefore sinks merges tree place next wires
      → (merge.first < length wires) × (merge.second < length wires)
  joined_low place next merge wires here before =
      let one = first_made sinks merges topology.each place merge here in
      let two = second_made sinks merges topology.each place merge here in
      let within = slice_get_within merges place merge here in
      (omega (arith, topology.all, before.all), omega (arith, topology.all, before.all))

  -- and for the root
  pub root_low : (place next : ℕ) (wires : List Wire)
      → AreDrawnBefore sinks merges tree place next wires → root_of sinks < length wires
  root_low place next wires before = omega (arith, topology.all, before.all)

  -- one more merge
  pub drawn_more : (place next : ℕ) (merge : Merge) (old middle new : List Wire)
      → slice_get merges place ≡ Some merge → AreDrawnBefore sinks merges tree place next old
      → IsEdgeDrawn tree merge.first next old middle → IsEdgeDrawn tree merge.second next middle new
      → AreDrawnBefore sinks merges tree (place + 1) (next + 1) new
  drawn_more place next merge old middle new here before first second =
      let low = (joined_low place next merge old here before).0 in
      let kept = drawn_all first low in
      let high : merge.second < length middle =
      omega (arith, kept, (joined_low place next merge old here before).1) in
      record {
        parent = omega (arith, before.parent);
        all = omega (arith, before.all, kept, drawn_all second high);
        small = drawn_small second high (drawn_small first low before.small);
        drawn = λ node up is below. by_parent low high node up is
            (cases_lt up (sinks + place)) below;
      }
    where
      up_is : next ≡ sinks + place
      up_is = before.parent

      -- nodes with other parents are other nodes
      other_node : (node up child : ℕ) → IsParent sinks merges node up
          → IsParent sinks merges child (sinks + place) → up < sinks + place → node ≢ child
      other_node node up child is also low same =
          let up_same = one_parent topology node up (sinks + place) is
          (subst (λ n. IsParent sinks merges n (sinks + place)) (sym same) also) in
          omega arith

      by_parent : merge.first < length old → merge.second < length middle → (node up : ℕ)
          → IsParent sinks merges node up → (up < sinks + place) ⊎ (sinks + place ≤ up)
          → up < sinks + (place + 1) → HasWire tree node up new
      by_parent low high node up is (inl earlier) below =
          drawn_other second high node up (other_node node up merge.second is
          (made_parent sinks merges place merge here
          merge.second (inr refl)) earlier)
          (drawn_other first low node up (other_node node up merge.first is
          (made_parent sinks merges place merge here
          merge.first (inl refl)) earlier)
          (before.drawn node up is earlier))
      by_parent low high node up is (inr later) below =
          let same : up ≡ sinks + place = omega arith in
          at (up_is ∙ sym same)
          (joined_by topology node place merge here (subst (IsParent sinks merges node) same is))
        where
          at : next ≡ up → Joins merge node → HasWire tree node up new
          at same (inl first_is) = subst (λ n. HasWire tree n up new) first_is
              (drawn_other second high merge.first up
              (λ one. absurd (omega (arith, (topology.each place merge here).ordered)))
              (subst (λ u. HasWire tree merge.first u middle) same
              (drawn_here first low)))
          at same (inr second_is) = subst (λ n. HasWire tree n up new) second_is
              (subst (λ u. HasWire tree merge.second u new) same
              (drawn_here second high))

  -- after all merges the root's edge is the last
  pub all_drawn : (place next : ℕ) (old new : List Wire) → length merges ≤ place
      → AreDrawnBefore sinks merges tree place next old
      → IsEdgeDrawn tree (root_of sinks) (source_of sinks) old new
      → AreDrawn sinks merges (embedding_of tree) new
  all_drawn place next old new past before last = record {
    drawn = λ node up is. some_then (slice_get new node) (each node up is) (λ wire is. is.drawn);
    points = λ node up is. some_then (slice_get new node) (each node up is) (λ wire is. is.points);
  }
    where
      low : root_of sinks < length old
      low = root_low place next old before

      each : (node up : ℕ) → IsParent sinks merges node up → HasWire tree node up new
      each node up (inl (at, is, found)) =
          let (merge, here, joins) = some_and (slice_get merges at)
          (λ merge. Joins merge node) found in
          let within = slice_get_within merges at merge here in
          drawn_other last low node up
          (λ root. let same = one_parent topology node up (source_of sinks)
          (inl (at, is, found)) (inr (root, refl)) in absurd (omega (arith, topology.all)))
          (before.drawn node up (inl (at, is, found)) (omega arith))
      each node up (inr (is_root, is)) = subst (λ n. HasWire tree n up new) (sym is_root)
          (subst (λ u. HasWire tree (root_of sinks) u new) (sym is) (drawn_here last low))
