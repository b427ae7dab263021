-- What is taken in from one more line, or what is wrong with it.
use Rattle.std.proofs.Common.{◌≡◌, ◌<◌, ◌+◌, ℕ, Bool, true, false, not, nat_le, if◌then◌else◌, Some, None, List, [], ◌∷◌, ◌++◌, length, refl, sym, ap, subst, ◌∙◌, arith}
use Rattle.std.proofs.lemmas.Bool.Decides.{nat_tests}
use Rattle.std.proofs.lemmas.List.{length-map, map_push}
use Rattle.std.proofs.lemmas.Option.{same_Some}
use Rattle.cts_model.specs.declared.tree.Merge.{Merge}
use Rattle.cts_model.specs.Vocabulary.{IsMerge, entries_in, has_words, words_in, AreMarked}
use Rattle.cts_model.proofs.EntryLemmas.{entries_round}
use Rattle.cts_model.proofs.MarkLemmas.{marks_more}
use Rattle.cts_model.proofs.TopologyLemmas.{EachMerge, EachMerge-push}
use Rattle.topology_file.specs.declared.fault.TopologyFault.TheVariants.{BadLine, Extra, NotOpen}
use Rattle.topology_file.specs.declared.joining.Joining.{Joining}
use Rattle.topology_file.specs.Entries.{is_entry, joins_open, merge_of, merges_of}
use Rattle.topology_file.specs.Kept.{kept_merge}
use Rattle.topology_file.specs.Taken.{HasTaken, IsOfOpen, TakesMerge}
use Rattle.topology_file.specs.TopologyTexts.{AreEntries, topology_entry_fault, topology_line_fault}
use Rattle.topology_file.proofs.AcceptedTexts.{entries_push}
use Rattle.topology_file.proofs.OpenNodes.{fails_unless_merge, test_from_merge}

module _ (sinks : ℕ) (joining : Joining) (earlier : List (List ℕ)) (line : List ℕ) (number : ℕ)
    (has : HasTaken sinks joining earlier) (number_is : number ≡ length earlier + 1)
    (entry : List (List ℕ)) (read : words_in line ≡ entry)
    (some : has_words entry ≡ true) where
  abbrev merges : List Merge
  merges = joining.merges

  -- so it is the next entry
  next : entries_in (earlier ++ line ∷ []) ≡ entries_in earlier ++ entry ∷ []
  next = entries_round earlier line [] (ap has_words read ∙ some)
      ∙ ap (λ words. entries_in earlier ++ words ∷ []) read

  -- what is wrong with the line is wrong with its entry
  of_entry : topology_line_fault sinks earlier line
      ≡ topology_entry_fault joining.sinks number merges entry
  of_entry = ap (λ n. topology_line_fault n earlier line) (sym has.sinks_are) ∙ ap
      (λ words. if has_words words
      then topology_entry_fault joining.sinks (length earlier + 1) (merges_of
      (entries_in earlier)) words
      else None) read
      ∙ ap (λ b. if b
      then topology_entry_fault joining.sinks (length earlier + 1) (merges_of
      (entries_in earlier)) entry
      else None) some
      ∙ (λ i. topology_entry_fault joining.sinks (sym number_is i) (sym has.merges_are i) entry)

  module _ (due : ℕ) (some_due : (length merges + 1 < joining.sinks)
      × (due ≡ joining.sinks + length merges))
      (kept : Merge)
      (kept_is : Some kept ≡ (if is_entry due entry then Some (kept_merge (merge_of entry))
      else None)) where
    abbrev merge : Merge
    merge = merge_of entry

    -- the words are an entry, and its merge is kept
    record IsGiven : Type 0 where
      form : is_entry (joining.sinks + length merges) entry ≡ true
      same : kept ≡ kept_merge merge

    given : IsGiven
    given = at (is_entry due entry) refl kept_is where
      at : (form : Bool) → is_entry due entry ≡ form
          → Some kept ≡ (if form then Some (kept_merge merge) else None) → IsGiven
      at true form is = record {
        form = ap (λ node. is_entry node entry) (sym some_due.1) ∙ form;
        same = same_Some kept (kept_merge merge) is;
      }
      at false form is = cc is

    -- what is wrong with such an entry, by whether it joins two open nodes
    by_nodes : (opens : Bool) → joins_open joining.sinks merges merge ≡ opens
        → topology_line_fault sinks earlier line ≡ (if not opens then Some
        (NotOpen number) else None)
    by_nodes opens is =
        let few : nat_le joining.sinks (length merges + 1) ≡ false =
        let below = some_due.0 in grind (arith, nat_tests) in
        of_entry ∙ (λ i. if few i then Some (Extra number)
        else if not (given.form i) then Some (BadLine number)
        else if not (is i) then Some (NotOpen number) else None)

    -- nodes that are made have marks
    marked_below : (node : ℕ) → node < joining.sinks + length merges
        → node < length joining.joined.items
    marked_below node below = omega (arith, below, joining.all, joining.within)

    -- a merge of two open nodes is seen as such
    opens : IsMerge joining.sinks merges merge → IsOfOpen joining kept
    opens joins =
        let made = joins.second.made in
        let second : kept.second ≡ merge.second =
        omega (arith, ap (λ m. m.second) given.same, made, joining.few, joining.within) in
        let first : kept.first ≡ merge.first = omega (
          arith,
          ap (λ m. m.first) given.same,
          joins.ordered,
          made,
          joining.few,
          joining.within,
        ) in
        let same : merge ≡ kept = λ i. record { first = sym first i; second = sym second i } in
        let there : IsMerge joining.sinks merges kept = subst (IsMerge joining.sinks merges) same
        joins in
        record {
          ordered = there.ordered;
          made = there.second.made;
          first =
              (has.marked kept.first (marked_below kept.first there.first.made)).1
              there.first.unjoined;
          second =
              (has.marked kept.second (marked_below kept.second there.second.made)).1
              there.second.unjoined;
        }

    -- one of others is a fault
    pub not_open : (IsOfOpen joining kept → ⊥)
        → topology_line_fault sinks earlier line ≡ Some (NotOpen number)
    not_open other = by_nodes false (fails_unless_merge joining.sinks merges merge
        (λ joins. other (opens joins)))

    module _ (open_nodes : IsOfOpen joining kept) where
      -- the nodes are kept as they are
      same : kept ≡ merge
      same =
          let below = open_nodes.made in
          let second : kept.second ≡ merge.second =
          omega (arith, ap (λ m. m.second) given.same, below, joining.few, joining.within) in
          let first : kept.first ≡ merge.first = omega (
            arith,
            ap (λ m. m.first) given.same,
            open_nodes.ordered,
            below,
            joining.few,
            joining.within,
          ) in
          λ i. record { first = first i; second = second i }

      joins : IsMerge joining.sinks merges kept
      joins =
          let below : kept.first < joining.sinks + length merges =
          omega (arith, open_nodes.ordered, open_nodes.made) in
          record {
            ordered = open_nodes.ordered;
            first = record {
              made = below;
              unjoined =
                  (has.marked kept.first (marked_below kept.first below)).0 open_nodes.first;
            };
            second = record {
              made = open_nodes.made;
              unjoined = (has.marked kept.second
                  (marked_below kept.second open_nodes.made)).0 open_nodes.second;
            };
          }

      -- it makes the node that is due after the entries before it
      due_there : joining.sinks + length merges ≡ sinks + length (entries_in earlier)
      due_there = (λ i. has.sinks_are i + length (has.merges_are i))
          ∙ ap (λ count. sinks + count) (length-map (entries_in earlier) merge_of)

      -- its merge is taken in
      pub merge_taken : (new : Joining) → TakesMerge joining new kept
          → (topology_line_fault sinks earlier line ≡ None) × HasTaken sinks new (earlier ++ line
          ∷ [])
      merge_taken new takes = (
        by_nodes true (test_from_merge joining.sinks merges merge
            (subst (IsMerge joining.sinks merges) same joins)),
        record {
          sinks_are = takes.sinks ∙ has.sinks_are;
          merges_are = takes.merges ∙ (λ i. has.merges_are i ++ same i ∷ [])
              ∙ sym (map_push merge_of (entries_in earlier) entry) ∙ ap merges_of (sym next);
          each = subst (λ n. EachMerge n new.merges) (sym takes.sinks)
              (subst (EachMerge joining.sinks) (sym takes.merges)
              (EachMerge-push joining.sinks merges kept has.each joins));
          form = subst (AreEntries sinks) (sym next) (entries_push sinks (entries_in earlier) entry
              has.form (subst (λ due. is_entry due entry ≡ true) due_there given.form));
          marked = subst (λ merges. AreMarked merges new.joined.items) (sym takes.merges)
              (subst (AreMarked (merges ++ kept ∷ [])) (sym takes.joined)
              (marks_more merges joining.joined.items has.marked kept));
        },
      )
