-- A text whose lines are those of a topology has no fault.
use Rattle.std.proofs.Common.{◌≡◌, ◌<◌, ◌+◌, ◌==◌, ℕ, suc, Bool, true, false, not, nat_le, if◌then◌else◌, Some, None, Ok, List, [], ◌∷◌, ◌++◌, filter, length, map, refl, sym, ap, subst, ◌∙◌, append_assoc, append-nil, arith}
use Rattle.std.proofs.Math.Seq.{get_or-append_seam, take-append_seam}
use Rattle.std.proofs.lemmas.Bool.Decides.{nat_tests}
use Rattle.std.proofs.lemmas.List.{length-append, length-map, map-append}
use Rattle.std.proofs.lemmas.List.Elements.{filter-append}
use Rattle.std.proofs.lemmas.Option.{slice_get-get_or}
use Rattle.cts_base.specs.LineFormats.{first_fault, first_fault_after}
use Rattle.cts_base.specs.Lines.{lines_of}
use Rattle.cts_model.specs.declared.tree.Merge.{Merge}
use Rattle.cts_model.specs.declared.tree.Topology.{Topology}
use Rattle.cts_model.specs.Vocabulary.{IsMerge, IsTopology, entries_in, entries_of, has_words, words_in}
use Rattle.cts_model.proofs.EntryLemmas.{entries_round}
use Rattle.topology_file.specs.Entries.{is_entry, merge_of, merges_of}
use Rattle.topology_file.specs.TopologyTexts.{AreEntries, IsTopologyText, topology_in, topology_line_fault}
use Rattle.topology_file.specs.declared.fault.TopologyFault.TheVariants.{BadLine, Extra, NotOpen}
use Rattle.topology_file.proofs.OpenNodes.{test_from_merge}

-- one entry more makes the node after those of the others
pub entries_push : (due : ℕ) (entries : List (List (List ℕ))) (last : List (List ℕ))
    → AreEntries due entries → is_entry (due + length entries) last ≡ true
    → AreEntries due (entries ++ last ∷ [])
entries_push due [] last each form =
    (subst (λ node. is_entry node last ≡ true) (omega arith) form, tt)
entries_push due (entry ∷ more) last (first, each) form = (
  first,
  entries_push (suc due) more last each
      (subst (λ node. is_entry node last ≡ true) (omega arith) form),
)

module _ (sinks : ℕ) where
  module _ (earlier : List (List ℕ)) (line : List ℕ) (later : List (List ℕ))
      (some : has_words (words_in line) ≡ true)
      (joins : IsTopology sinks (merges_of (entries_in (earlier ++ line ∷ later))))
      (form : is_entry (sinks + length (entries_in earlier)) (words_in line) ≡ true) where
    before : List Merge
    before = merges_of (entries_in earlier)

    -- all merges are those before the line, its own, and those of the lines after it
    all : merges_of (entries_in (earlier ++ line ∷ later))
        ≡ before ++ merge_of (words_in line) ∷ merges_of (entries_in later)
    unfolding before
    all = ap merges_of (entries_round earlier line later some)
        ∙ map-append merge_of (entries_in earlier) (words_in line ∷ entries_in later)

    -- its merge joins two open nodes
    opens : IsMerge sinks before (merge_of (words_in line))
    opens =
        let more = merge_of (words_in line) ∷ merges_of (entries_in later) in
        let whole = subst (IsTopology sinks) all joins in
        let within : length before < length (before ++ more) =
        omega (arith, length-append before more) in
        let here = slice_get-get_or (before ++ more) (length before) (merge_of (words_in line))
        within ∙ ap Some (get_or-append_seam before (merge_of (words_in line))
        (merges_of (entries_in later)) (merge_of (words_in line))) in
        subst (λ merges. IsMerge sinks merges (merge_of (words_in line)))
        (take-append_seam before more) (whole.each (length before) _ here)

    -- a line with words has no fault
    fine : topology_line_fault sinks earlier line ≡ None
    unfolding before
    fine =
        let count = length-map (entries_in earlier) merge_of in
        let due : is_entry (sinks + length before) (words_in line) ≡ true =
        subst (λ many. is_entry (sinks + many) (words_in line) ≡ true) (sym count) form in
        let more = merge_of (words_in line) ∷ merges_of (entries_in later) in
        let whole = subst (IsTopology sinks) all joins in
        let wanted = whole.all in
        let few : nat_le sinks (length before + 1) ≡ false =
        let size = length-append before more in grind (arith, nat_tests) in
        let open_nodes = test_from_merge sinks before (merge_of (words_in line)) opens in
        (λ i. if some i
        then if few i then Some (Extra (length earlier + 1))
        else if not (due i) then Some (BadLine (length earlier + 1))
        else if not (open_nodes i) then Some (NotOpen (length earlier + 1)) else None
        else None)

  -- a blank line is no entry
  blank : (earlier : List (List ℕ)) (line : List ℕ) → has_words (words_in line) ≡ false
      → entries_in (earlier ++ line ∷ []) ≡ entries_in earlier
  blank earlier line none = ap (filter has_words) (map-append words_in earlier (line ∷ []))
      ∙ filter-append has_words (map words_in earlier) (words_in line ∷ [])
      ∙ rw none (append-nil (entries_in earlier))

  -- lines after others have none
  fine_after : (earlier lines : List (List ℕ))
      → AreEntries (sinks + length (entries_in earlier)) (entries_in lines)
      → IsTopology sinks (merges_of (entries_in (earlier ++ lines)))
      → first_fault_after (topology_line_fault sinks) earlier lines ≡ None
  fine_after earlier [] form joins = refl
  fine_after earlier (line ∷ later) form joins =
      at (λ form. fine_after (earlier ++ line ∷ []) later form
      (subst (λ lines. IsTopology sinks (merges_of (entries_in lines)))
      (sym (append_assoc earlier (line ∷ []) later)) joins)) (has_words (words_in line)) refl where
        at : (AreEntries (sinks + length (entries_in (earlier ++ line ∷ []))) (entries_in later)
            → first_fault_after (topology_line_fault sinks) (earlier ++ line ∷ []) later ≡ None)
            → (some : Bool) → has_words (words_in line) ≡ some
            → first_fault_after (topology_line_fault sinks) earlier (line ∷ later) ≡ None
        at rest true some =
            let here = subst (AreEntries (sinks + length (entries_in earlier)))
            (entries_round [] line later some) form in
            let count = ap length (entries_round earlier line [] some)
            ∙ length-append (entries_in earlier) (words_in line ∷ []) in
            rw (fine earlier line later some joins here.0)
            (rest (subst (λ due. AreEntries due (entries_in later)) (omega (arith, count)) here.1))
        at rest false none =
            rw none (rest (subst (λ entries. AreEntries (sinks + length entries) (entries_in later))
            (sym (blank earlier line none)) (rw none at form)))

  module _ (text : List ℕ) (topology : Topology) (is : IsTopologyText sinks text topology) where
    joins : IsTopology sinks (merges_of (entries_of text))
    joins = subst (IsTopology sinks) is.merges is.joins_all

    -- no line of such a text has a fault
    pub no_fault : first_fault (topology_line_fault sinks) text ≡ None
    no_fault = fine_after [] (lines_of text)
        (subst (λ due. AreEntries due (entries_of text)) (omega arith) is.form) joins

    -- and its topology is told
    pub topology_told : topology_in text sinks ≡ Ok topology
    topology_told =
        let count = length-map (entries_of text) merge_of in
        let all : (length (entries_of text) + 1 == sinks) ≡ true =
        let wanted = joins.all in grind (arith, nat_tests) in
        rw (no_fault, all) (λ i. Ok (record { merges = sym is.merges i }))
