-- The pairs that are kept, while the one on top is renewed.
use Rattle.topology.proofs.Vocabulary.{◌≡◌, ◌⊎◌, ℕ, zero, suc, ◌<◌, ◌+◌, Bool, true, false, cond, Option, Some, None, List, [], ◌∷◌, ◌++◌, ℤ, inl, inr, refl, sym, ap, subst, ◌∙◌, arith, All, Contains, slice_get, sum_by, IsPermutation, IfSome, option_to_list, option_map_or, int_eq, nat_lt, cases_lt, lt-ltb, ltb-true, All-contains, Contains-append_right, Contains-permutation, sum_by-IsPermutation, Cluster, cost_of, Live, Pair, IsBefore, IsAtMost, IsReplaced, IsPair, IsKept, IsNearest, IsCovered, AreCovered, AreKept, IsFirstOf, cluster_of, owner_of}
use Rattle.std.proofs.lemmas.Bool.Decides.{Decides-int_eq}
use Rattle.std.proofs.lemmas.List.Sums.{sum_by-cons}
use Rattle.topology.proofs.EntryLemmas.{node_within}
use Rattle.topology.proofs.NearLemmas.{before_along, sides}

-- ---- every pair is covered

-- the one on top is before all pairs that are covered
top_first : (sinks : ℕ) (kept : List Pair) (pair : Pair)
    → IfSome (slice_get kept 0) (λ top. All (λ other. ¬ IsBefore other top) kept)
    → IsCovered sinks kept pair → IsAtMost (slice_get kept 0) pair
top_first sinks [] pair least found = absurd (omega (arith, found.among.1))
top_first sinks (top ∷ rest) pair least found = λ before.
    before_along pair found.least top before
    (All-contains (λ other. ¬ IsBefore other top) (top ∷ rest) found.least least found.among)
    found.at_most

pub contains_cases : (head pair : Pair) (rest : List Pair) → Contains (head ∷ rest) pair
    → (head ≡ pair) ⊎ Contains rest pair
contains_cases head pair rest (zero, within, found) = inl found
contains_cases head pair rest (suc k, within, found) = inr (k, omega arith, found)

-- the owner of the one on top keeps another instead
pub replaced_covers : (live : Live) (from : ℕ) (old new : List Pair) (top : Pair)
    (found : Option Pair)
    → slice_get old 0 ≡ Some top → AreCovered live from old → IsReplaced old new found
    → IsNearest live (owner_of live.early top) found → AreCovered live from new
replaced_covers live from old new top found on_top covered replaced nearest = λ pair is within.
    let was = covered pair is within in
    elim (contains_cases replaced.top was.least replaced.rest
    (Contains-permutation old (replaced.top ∷ replaced.rest) was.least replaced.before was.among)) [
      | inl here ↦ at found replaced.after nearest.bound nearest.there pair is
          (sym was.owner ∙ ap (owner_of live.early) (sym here ∙ one_top replaced.top top
          (sym replaced.on_top ∙ on_top)))
      | inr among ↦ record {
        least = was.least;
        among = Contains-permutation (option_to_list found ++ replaced.rest) new was.least
            replaced.after (Contains-append_right (option_to_list found) replaced.rest was.least
            among);
        owner = was.owner;
        at_most = was.at_most;
      }
    ]
  where
    one_top : (one other : Pair) → Some one ≡ Some other → one ≡ other
    one_top one other is = cc

    at : (o : Option Pair) → IsPermutation (option_to_list o ++ replaced.rest) new
        → ((pair : Pair) → IsKept live (owner_of live.early top) pair → IsAtMost o pair)
        → ((pair : Pair) → o ≡ Some pair → IsKept live (owner_of live.early top) pair)
        → (pair : Pair) → IsPair live pair → owner_of live.early pair ≡ owner_of live.early top
        → IsCovered live.early new pair
    at None after bound there pair is owner = absurd (bound pair (record
        { pair = is; owner = owner }))
    at (Some next) after bound there pair is owner = record {
      least = next;
      among = Contains-permutation (next ∷ replaced.rest) new next after (0, omega arith, refl);
      owner = (there next refl).owner ∙ sym owner;
      at_most = bound pair (record { pair = is; owner = owner });
    }

-- ---- fewer pairs are broken up

-- whether the pair is of two clusters
abbrev pub has_pair : Live → Pair → Bool
has_pair live pair = cond (nat_lt pair.first pair.second)
    (option_map_or (λ one. option_map_or (λ other. int_eq pair.cost (cost_of one other))
    (cluster_of live pair.second) false) (cluster_of live pair.first) false) false

abbrev pub broken : Live → Pair → ℕ
broken live pair = cond (has_pair live pair) 0 1

-- how many are not
abbrev pub broken_pairs : Live → List Pair → ℕ
broken_pairs live kept = sum_by (broken live) kept

pair_whole : (live : Live) (pair : Pair) → IsPair live pair → has_pair live pair ≡ true
pair_whole live pair is = search (arith, lt-ltb, Decides-int_eq)

pair_broken : (live : Live) (pair : Pair) → ¬ IsPair live pair → has_pair live pair ≡ false
pair_broken live pair none = at (has_pair live pair) refl
  where
    parts : (b : Bool) → nat_lt pair.first pair.second ≡ b → (one other : Option Cluster)
        → cluster_of live pair.first ≡ one → cluster_of live pair.second ≡ other
        → cond b (option_map_or (λ x. option_map_or (λ y. int_eq pair.cost (cost_of x y)) other
        false) one false) false ≡ true → IsPair live pair
    parts false ordered one other here there is = absurd (cc)
    parts true ordered None other here there is = absurd (cc)
    parts true ordered (Some one) None here there is = absurd (cc)
    parts true ordered (Some one) (Some other) here there is = record {
      one = one;
      other = other;
      ordered = ltb-true pair.first pair.second ordered;
      first = here;
      second = there;
      cost = same_cost pair.cost (cost_of one other) is;
    }
      where
        same_cost : (a b : ℤ) → int_eq a b ≡ true → a ≡ b
        same_cost a b is = (Decides-int_eq a b).0 is

    at : (b : Bool) → has_pair live pair ≡ b → has_pair live pair ≡ false
    at false is = is
    at true is = absurd (none (parts (nat_lt pair.first pair.second) refl
        (cluster_of live pair.first) (cluster_of live pair.second) refl refl is))

pub replaced_fewer : (live : Live) (old new : List Pair) (top : Pair) (found : Option Pair)
    → slice_get old 0 ≡ Some top → ¬ IsPair live top → IsReplaced old new found
    → IsNearest live (owner_of live.early top) found → broken_pairs live new < broken_pairs live old
replaced_fewer live old new top found on_top none replaced nearest =
    at found replaced.after nearest.there
  where
    one_top : (one other : Pair) → Some one ≡ Some other → one ≡ other
    one_top one other is = cc

    top_broken : broken live replaced.top ≡ 1
    top_broken = ap (broken live) (one_top replaced.top top (sym replaced.on_top ∙ on_top))
        ∙ ap (λ b. cond b 0 1) (pair_broken live top none)

    before : broken_pairs live (replaced.top ∷ replaced.rest) ≡ broken_pairs live old
    before = sum_by-IsPermutation (broken live) old (replaced.top ∷ replaced.rest) replaced.before

    at : (o : Option Pair) → IsPermutation (option_to_list o ++ replaced.rest) new
        → ((pair : Pair) → o ≡ Some pair → IsKept live (owner_of live.early top) pair)
        → broken_pairs live new < broken_pairs live old
    at None after there = omega (
      arith,
      before,
      top_broken,
      sum_by-cons (broken live) replaced.top replaced.rest,
      sum_by-IsPermutation (broken live) replaced.rest new after,
    )
    at (Some next) after there =
        let whole : broken live next ≡ 0 = ap (λ b. cond b 0 1)
        (pair_whole live next (there next refl).pair) in
        omega (
          arith,
          before,
          top_broken,
          whole,
          sum_by-cons (broken live) replaced.top replaced.rest,
          sum_by-cons (broken live) next replaced.rest,
          sum_by-IsPermutation (broken live) (next ∷ replaced.rest) new after,
        )

-- ---- one node more

-- one more node keeps the cheapest of its pairs
pub search_next : (live : Live) (from : ℕ) (now new : List Pair) (nearest : Option Pair)
    → AreCovered live from now → IsNearest live from nearest
    → IsPermutation (option_to_list nearest ++ now) new → AreCovered live (from + 1) new
search_next live from now new nearest covered is moved = λ pair there within. elim
    (cases_lt (owner_of live.early pair) from) [
      | inl before ↦
          let was = covered pair there before in
          record {
            least = was.least;
            among = Contains-permutation (option_to_list nearest ++ now) new was.least moved
                (Contains-append_right (option_to_list nearest) now was.least was.among);
            owner = was.owner;
            at_most = was.at_most;
          }
      | inr behind ↦ by_nearest nearest is.bound is.there moved pair there
          (omega (arith, within, behind))
    ]
  where
    by_nearest : (o : Option Pair)
        → ((pair : Pair) → IsKept live from pair → IsAtMost o pair)
        → ((pair : Pair) → o ≡ Some pair → IsKept live from pair)
        → IsPermutation (option_to_list o ++ now) new
        → (pair : Pair) → IsPair live pair → owner_of live.early pair ≡ from
        → IsCovered live.early new pair
    by_nearest None bound there moved pair here owner = absurd (bound pair (record
        { pair = here; owner = owner }))
    by_nearest (Some least) bound there moved pair here owner = record {
      least = least;
      among = Contains-permutation (least ∷ now) new least moved (0, omega arith, refl);
      owner = (there least refl).owner ∙ sym owner;
      at_most = bound pair (record { pair = here; owner = owner });
    }

-- the one on top is before all pairs
pub kept_first : (live : Live) (kept : List Pair) (first : Option Pair) → AreKept live kept
    → first ≡ slice_get kept 0
    → IfSome first (λ top. All (λ other. ¬ IsBefore other top) kept) → IsFirstOf live first
kept_first live kept first held is least = subst (IsFirstOf live) (sym is)
    (λ pair there. top_first live.early kept pair
    (subst (λ o. IfSome o (λ top. All (λ other. ¬ IsBefore other top) kept)) is least)
    (held.covered pair there (elim (sides live.early pair _ _ refl refl) [
      | inl (owner, _) ↦ omega (
        arith,
        owner,
        there.ordered,
        node_within live pair.second there.other there.second,
      )
      | inr (_, owner) ↦ omega (
        arith,
        owner,
        node_within live pair.second there.other there.second,
      )
    ])))
