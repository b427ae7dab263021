-- Which pair two nodes have, and which of them keeps it.
use Rattle.topology.proofs.Vocabulary.{◌≡◌, ◌↔◌, ℕ, ◌<◌, ◌≤◌, Option, Some, None, ℤ, inl, inr, refl, sym, ap, subst, ◌∙◌, arith, cases_lt, lt-ltb, le-ltb, Cluster, cost_of, Live, Pair, HasCluster, IsPair, IsKeptWith, owner_of, other_of}
use Rattle.topology.proofs.EntryLemmas.{one_cluster}

-- the pair is of those two nodes
abbrev pub IsOf : Live → (first second : ℕ) → Pair → Type 0
IsOf live first second pair = IsPair live pair × (pair.first ≡ first) × (pair.second ≡ second)

pub no_pair : (live : Live) (first second : ℕ)
    → ((one other : Cluster) → HasCluster live first one → HasCluster live second other → ⊥)
    → (pair : Pair) → (None ≡ Some pair) ↔ IsOf live first second pair
no_pair live first second none pair = search arith

pub found_pair : (live : Live) (first second : ℕ) (one other : Cluster) (cost : ℤ) → first < second
    → HasCluster live first one → HasCluster live second other → cost ≡ cost_of one other
    → (pair : Pair) → (Some (record { cost = cost; first = first; second = second }) ≡ Some pair)
    ↔ IsOf live first second pair
found_pair live first second one other cost ordered has other_has cost_is pair = (
  λ is. subst (IsOf live first second) (one_pair _ pair is) (
    record {
      one = one;
      other = other;
      ordered = ordered;
      first = has;
      second = other_has;
      cost = cost_is;
    },
    refl,
    refl,
  ),
  λ (is, at_first, at_second).
      let first_is : one ≡ is.one = one_cluster one is.one (sym has
      ∙ subst (λ n. HasCluster live n is.one) at_first is.first) in
      let second_is : other ≡ is.other = one_cluster other is.other (sym other_has
      ∙ subst (λ n. HasCluster live n is.other) at_second is.second) in
      let same : cost ≡ pair.cost = cost_is ∙ ap (λ c. cost_of c other) first_is
      ∙ ap (cost_of is.one) second_is ∙ sym is.cost in
      ap Some (λ i. record
      { cost = same i; first = sym at_first i; second = sym at_second i }),
)
  where
    one_pair : (a b : Pair) → Some a ≡ Some b → a ≡ b
    one_pair a b is = cc

-- ---- who keeps it

pub owner_ahead : (early : ℕ) (pair : Pair) → pair.second < early
    → (owner_of early pair ≡ pair.first) × (other_of early pair ≡ pair.second)
owner_ahead early pair below = rw (lt-ltb pair.second early below) (refl, refl)

owner_behind : (early : ℕ) (pair : Pair) → early ≤ pair.second
    → (owner_of early pair ≡ pair.second) × (other_of early pair ≡ pair.first)
owner_behind early pair from = rw (le-ltb pair.second early from) (refl, refl)

pub kept_behind : (live : Live) (owner other : ℕ) (found : Option Pair) → live.early ≤ owner
    → ((pair : Pair) → (found ≡ Some pair) ↔ IsOf live other owner pair)
    → (pair : Pair) → (found ≡ Some pair) ↔ IsKeptWith live owner other pair
kept_behind live owner other found behind law pair = (
  λ is.
      let (held, first, second) = (law pair).0 is in
      let kept = owner_behind live.early pair (omega (arith, behind, second)) in
      record {
        kept = record { pair = held; owner = kept.0 ∙ second };
        other = kept.1 ∙ first;
      },
  λ held. (law pair).1 (elim (cases_lt pair.second live.early) [
    | inl below ↦ absurd (omega (
      arith,
      (owner_ahead live.early pair below).0,
      held.kept.owner,
      held.kept.pair.ordered,
      below,
      behind,
    ))
    | inr from ↦
        let kept = owner_behind live.early pair from in
        (held.kept.pair, sym kept.1 ∙ held.other, sym kept.0 ∙ held.kept.owner)
  ]),
)

pub kept_ahead : (live : Live) (owner other : ℕ) (found : Option Pair) → owner < live.early
    → other < live.early → ((pair : Pair) → (found ≡ Some pair) ↔ IsOf live owner other pair)
    → (pair : Pair) → (found ≡ Some pair) ↔ IsKeptWith live owner other pair
kept_ahead live owner other found ahead other_ahead law pair = (
  λ is.
      let (held, first, second) = (law pair).0 is in
      let kept = owner_ahead live.early pair (omega (arith, other_ahead, second)) in
      record {
        kept = record { pair = held; owner = kept.0 ∙ first };
        other = kept.1 ∙ second;
      },
  λ held. (law pair).1 (elim (cases_lt pair.second live.early) [
    | inl below ↦
        let kept = owner_ahead live.early pair below in
        (held.kept.pair, sym kept.0 ∙ held.kept.owner, sym kept.1 ∙ held.other)
    | inr from ↦ absurd (omega (
      arith,
      (owner_behind live.early pair from).0,
      held.kept.owner,
      from,
      ahead,
    ))
  ]),
)

-- ---- whether a pair is there

pub has_found : (live : Live) (pair found : Pair) → IsOf live pair.first pair.second found
    → (found.cost ≡ pair.cost) ↔ IsPair live pair
has_found live pair found (held, first, second) = (
  λ cost. subst (IsPair live) (λ i. record
      { cost = cost i; first = first i; second = second i }) held,
  λ is. held.cost ∙ ap (λ c. cost_of c held.other)
      (one_cluster held.one is.one
      (sym (subst (λ n. HasCluster live n held.one) first held.first) ∙ is.first))
      ∙ ap (cost_of is.one)
      (one_cluster held.other is.other
      (sym (subst (λ n. HasCluster live n held.other) second held.second) ∙ is.second))
      ∙ sym is.cost,
)
