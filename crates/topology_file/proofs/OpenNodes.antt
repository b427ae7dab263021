-- The test whether a merge joins two open nodes says what it should.
use Rattle.std.proofs.Common.{◌≡◌, ◌+◌, ◌==◌, ◌&&◌, ℕ, Bool, true, false, not, nat_lt, List, length, refl, arith}
use Rattle.std.proofs.lemmas.Bool.Decides.{nat_tests}
use Rattle.std.proofs.lemmas.List.Sums.{AllPass-from_list_all, list_all-from_AllPass}
use Rattle.std.specs.List.{list_all}
use Rattle.std.proofs.lemmas.Bool.{and_from, and_parts}
use Rattle.cts_model.specs.declared.tree.Merge.{Merge}
use Rattle.cts_model.specs.Vocabulary.{IsUnjoined, IsLive, IsMerge}
use Rattle.topology_file.specs.Entries.{is_open, joins_open}

-- the test of one merge
abbrev leaves_open : ℕ → Merge → Bool
leaves_open node merge = not (merge.first == node) && not (merge.second == node)

unjoined_from_test : (node : ℕ) (merge : Merge) → leaves_open node merge ≡ true
    → IsUnjoined node merge
unjoined_from_test node merge passed =
    let parts = and_parts (not (merge.first == node)) (not (merge.second == node)) passed in
    let first = parts.0 in
    let second = parts.1 in
    (λ same. grind (arith, nat_tests), λ same. grind (arith, nat_tests))

test_from_unjoined : (node : ℕ) (merge : Merge) → IsUnjoined node merge
    → leaves_open node merge ≡ true
test_from_unjoined node merge unjoined =
    let first = unjoined.0 in
    let second = unjoined.1 in
    and_from (not (merge.first == node)) (not (merge.second == node)) (grind (arith, nat_tests))
    (grind (arith, nat_tests))

module _ (sinks : ℕ) (merges : List Merge) where
  abbrev is_made : ℕ → Bool
  is_made node = nat_lt node (sinks + length merges)

  -- a node that passes the test is live
  live_from_test : (node : ℕ) → is_open sinks merges node ≡ true → IsLive sinks merges node
  live_from_test node passed =
      let parts = and_parts (is_made node) (list_all (leaves_open node) merges) passed in
      let made = parts.0 in
      record {
        made = grind (arith, nat_tests);
        unjoined = λ place default within. unjoined_from_test node _
            (AllPass-from_list_all (leaves_open node) merges parts.1 place default within);
      }

  test_from_live : (node : ℕ) → IsLive sinks merges node → is_open sinks merges node ≡ true
  test_from_live node live =
      let made = live.made in
      and_from (is_made node) (list_all (leaves_open node) merges) (grind (arith, nat_tests))
      (list_all-from_AllPass (leaves_open node) merges
      (λ place default within. test_from_unjoined node _ (live.unjoined place default within)))

  module _ (merge : Merge) where
    abbrev is_ordered : Bool
    is_ordered = nat_lt merge.first merge.second

    -- a merge that passes it joins two live nodes
    pub merge_from_test : joins_open sinks merges merge ≡ true → IsMerge sinks merges merge
    merge_from_test passed =
        let parts = and_parts (is_ordered && is_open sinks merges merge.first)
        (is_open sinks merges merge.second) passed in
        let front = and_parts is_ordered (is_open sinks merges merge.first) parts.0 in
        let ordered = front.0 in
        record {
          ordered = grind (arith, nat_tests);
          first = live_from_test merge.first front.1;
          second = live_from_test merge.second parts.1;
        }

    -- and such a merge passes it
    pub test_from_merge : IsMerge sinks merges merge → joins_open sinks merges merge ≡ true
    test_from_merge is =
        let ordered = is.ordered in
        let passed : is_ordered ≡ true = grind (arith, nat_tests) in
        and_from (is_ordered && is_open sinks merges merge.first)
        (is_open sinks merges merge.second)
        (and_from is_ordered (is_open sinks merges merge.first) passed
        (test_from_live merge.first is.first)) (test_from_live merge.second is.second)

    -- others don't
    pub fails_unless_merge : (IsMerge sinks merges merge → ⊥)
        → joins_open sinks merges merge ≡ false
    fails_unless_merge other = at (joins_open sinks merges merge) refl where
      at : (passed : Bool) → joins_open sinks merges merge ≡ passed → passed ≡ false
      at true is = absurd (other (merge_from_test is))
      at false is = refl
