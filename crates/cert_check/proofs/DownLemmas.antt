-- Wires from the source down, as they are handed from each node's parent to the node.
use Rattle.cert_check.proofs.Vocabulary.{◌≡◌, ◌≢◌, ℕ, zero, suc, ◌<◌, ◌≤◌, ◌+◌, ◌*◌, ◌^◌, ℤ, pos, ◌+ℤ◌, List, length, get_or, inl, inr, sym, ap, subst, ◌∙◌, arith, slice_set, to_z, of_z, w128, get_or_default, cases_lt, cases_eq, ints, get_or-set_same, get_or-set_other, length-set, All-set, Merge, AreWiresDown, IsBelow, number_at, IsParent, IsTopology, source_of, has_parent, one_parent, parent_above, parent_stands}
use Rattle.std.specs.List.{All}

-- the wires down to the source and to the last so many nodes with an edge are known
pub record Handed (sinks : ℕ) (merges : List Merge) (lengths wires : List ℤ) (done : ℕ)
    : Type 0 where
  pub all : length wires ≡ 2 * sinks
  pub small : All (IsBelow (10 ^ 32 * (done + 1))) wires
  pub source : number_at wires (source_of sinks) ≡ pos 0
  pub each : (node parent : ℕ) → length lengths ≤ node + done
      → IsParent sinks merges node parent
      → number_at wires node ≡ number_at wires parent +ℤ number_at lengths node

-- a bound may be higher
pub higher : (low high : ℕ) (number : ℤ) → low ≤ high → IsBelow low number → IsBelow high number
higher low high number less below = search (arith, ints)

-- a sum is below a bound that is as much higher
sum_below : (bound more : ℕ) (one other : ℤ) → IsBelow bound one → IsBelow more other
    → IsBelow (bound + more) (one +ℤ other)
sum_below bound more one other first second = search (arith, ints)

module _ {sinks : ℕ} {merges : List Merge} (topology : IsTopology sinks merges)
    (lengths : List ℤ) (small : All (IsBelow (10 ^ 32)) lengths)
    (edges : length lengths + 1 ≡ 2 * sinks) where
  -- all of them are small
  pub handed_small : (wires : List ℤ) (done : ℕ) → Handed sinks merges lengths wires done
      → done ≤ 9998 → All (IsBelow (10 ^ 36)) wires
  handed_small wires done handed few place default within = search (arith, higher, small)

  module _ (wires : List ℤ) (done node up : ℕ) (handed : Handed sinks merges lengths wires done)
      (next : node + done + 1 ≡ length lengths) (is : IsParent sinks merges node up) where
    abbrev wire : ℤ
    wire = number_at wires up +ℤ number_at lengths node

    -- the wires with that down to the node
    abbrev more : List ℤ
    more = slice_set wires node wire

    -- another node keeps its own
    kept : (other : ℕ) → other ≢ node → number_at more other ≡ number_at wires other
    kept other apart = get_or-set_other wires node other wire (pos 0) apart

    above : node < up
    above = parent_above topology node up is

    stands : up ≤ source_of sinks
    stands = parent_stands topology node up is

    -- the wire down to the parent is small, as it is read
    pub read_small : (read : ℤ) → read ≡ get_or wires up read → done ≤ 9998 → IsBelow (10 ^ 36) read
    read_small read is few = subst (IsBelow (10 ^ 36)) (sym is)
        (handed_small wires done handed few up read
        (omega (arith, handed.all, stands, topology.all)))

    -- and so the code adds it as it is
    pub sum_kept : (read sum : ℤ) → read ≡ get_or wires up read → done ≤ 9998
        → sum ≡ to_z w128 (of_z w128 read) +ℤ to_z w128 (of_z w128 (number_at lengths node))
        → to_z w128 (of_z w128 sum) ≡ wire
    sum_kept read sum is few adds =
        let found = is ∙ get_or_default wires up read (pos 0)
        (omega (arith, handed.all, stands, topology.all)) in
        omega (
          arith,
          ints,
          adds,
          found,
          read_small read is few,
          small node (pos 0) (omega (arith, next)),
        )

    wire_small : IsBelow (10 ^ 32 * (done + 1 + 1)) wire
    wire_small = higher (10 ^ 32 * (done + 1) + 10 ^ 32) (10 ^ 32 * (done + 1 + 1)) wire
        (omega arith) (sum_below (10 ^ 32 * (done + 1)) (10 ^ 32) (number_at wires up)
        (number_at lengths node)
        (handed.small up (pos 0) (omega (arith, handed.all, stands, topology.all)))
        (small node (pos 0) (omega (arith, next))))

    -- the node's own is known
    own : (parent : ℕ) → IsParent sinks merges node parent
        → number_at more node ≡ number_at more parent +ℤ number_at lengths node
    own parent also =
        let one = one_parent topology node up parent is also in
        get_or-set_same wires node wire (pos 0) (omega (arith, next, edges, handed.all))
        ∙ ap (λ z. z +ℤ number_at lengths node)
        (sym (kept up (λ same. omega (arith, same, above))) ∙ ap (number_at more) one)

    -- and those after it stay
    after : (other parent : ℕ) → node < other → IsParent sinks merges other parent
        → number_at more other ≡ number_at more parent +ℤ number_at lengths other
    after other parent later also =
        let higher_up = parent_above topology other parent also in
        kept other (λ same. omega (arith, same, later))
        ∙ handed.each other parent (omega (arith, next, later)) also
        ∙ ap (λ z. z +ℤ number_at lengths other)
        (sym (kept parent (λ same. omega (arith, same, later, higher_up))))

    -- so they are known for one node more
    pub handed_turn : Handed sinks merges lengths more (done + 1)
    handed_turn = record {
      all = length-set wires node wire ∙ handed.all;
      small = All-set (IsBelow (10 ^ 32 * (done + 1 + 1))) wires node wire wire_small
          (λ place default within. higher (10 ^ 32 * (done + 1)) (10 ^ 32 * (done + 1 + 1))
          (get_or wires place default) (omega arith) (handed.small place default within));
      source = kept (source_of sinks) (λ same. omega (arith, same, above, stands))
          ∙ handed.source;
      each = λ other parent late also. elim (cases_eq node other) [
        | inl same ↦ subst (λ other. number_at more other
            ≡ number_at more parent +ℤ number_at lengths other) same
            (own parent (subst (λ other. IsParent sinks merges other parent) (sym same) also))
        | inr apart ↦ after other parent (omega (arith, late, next, apart)) also
      ];
    }

  -- after all of them they are the wires down
  pub handed_all : (wires : List ℤ) → Handed sinks merges lengths wires (length lengths)
      → AreWiresDown sinks merges (number_at lengths) (number_at wires)
  handed_all wires handed = record {
    source = handed.source;
    each = λ node parent is. handed.each node parent (omega arith) is;
  }

-- wires down are the same, however they are found
module _ {sinks : ℕ} {merges : List Merge} (topology : IsTopology sinks merges)
    (lengths wire other : ℕ → ℤ) (down : AreWiresDown sinks merges lengths wire)
    (also : AreWiresDown sinks merges lengths other) where
  -- at the source
  at_source : (node : ℕ) → node ≡ source_of sinks → wire node ≡ other node
  at_source node same = ap wire same ∙ down.source ∙ sym also.source ∙ ap other (sym same)

  -- and at each node from its parent on
  pub one_wire : (rest node : ℕ) → source_of sinks ≤ node + rest → node ≤ source_of sinks
      → wire node ≡ other node
  one_wire zero node near low = at_source node (omega arith)
  one_wire (suc rest) node near low = elim (cases_lt node (source_of sinks)) [
    | inl below ↦
        let (parent, is) = has_parent topology node below in
        let above = parent_above topology node parent is in
        let stands = parent_stands topology node parent is in
        down.each node parent is
        ∙ ap (λ z. z +ℤ lengths node) (one_wire rest parent (omega arith) stands)
        ∙ sym (also.each node parent is)
    | inr above ↦ at_source node (omega arith)
  ]
