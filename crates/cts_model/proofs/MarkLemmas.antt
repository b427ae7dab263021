-- Marks of the nodes that merges join, where one more merge comes.
use Rattle.cts_model.proofs.Vocabulary.{◌≡◌, ◌⊎◌, ◌<◌, ◌↔◌, ℕ, Bool, true, false, List, [], ◌∷◌, ◌++◌, length, get_or, set, inl, inr, sym, ap, subst, ◌∙◌, arith, length-append, All, cases_eq, false≢true, get_or-set_same, get_or-set_other, length-set, All-append, All-cons, All-nil, get_or-append_seam, get_or-append, Merge}
use Rattle.cts_model.specs.tree.Marks.{AreMarked, IsUnjoined}

module _ {X : Type 0} (P : X → Type 0) (earlier : List X) (last : X) where
  -- what holds of all items holds of those before the last, and of the last
  all_before : All P (earlier ++ last ∷ []) → All P earlier
  all_before all place default within =
      subst P (get_or-append earlier (last ∷ []) default place within)
      (all place default (omega (arith, length-append earlier (last ∷ []))))

  all_last : All P (earlier ++ last ∷ []) → P last
  all_last all = subst P (get_or-append_seam earlier last [] last)
      (all (length earlier) last (omega (arith, length-append earlier (last ∷ []))))

  all_more : All P earlier → P last → All P (earlier ++ last ∷ [])
  all_more before here = All-append P earlier (last ∷ []) before
      (All-cons P last [] here (All-nil P))

module _ (merges : List Merge) (marks : List Bool) (before : AreMarked merges marks)
    (merge : Merge) where
  abbrev middle : List Bool
  middle = set marks merge.first true

  abbrev after : List Bool
  after = set middle merge.second true

  -- a node has a mark exactly where a merge joins it, and so it is with one merge more
  of_node : (node : ℕ) → node < length marks
      → (merge.first ≡ node) ⊎ (merge.first ≡ node → ⊥)
      → (merge.second ≡ node) ⊎ (merge.second ≡ node → ⊥)
      → (get_or after node false ≡ false) ↔ (All (IsUnjoined node) (merges ++ merge ∷ []))
  of_node node there first (inl second) = (
    λ unset. absurd (false≢true (sym unset ∙ ap (λ n. get_or after n false) (sym second)
        ∙ get_or-set_same middle merge.second true false
        (omega (arith, there, second, length-set marks merge.first true)))),
    λ all. absurd ((all_last (IsUnjoined node) merges merge all).1 second),
  )
  of_node node there (inl first) (inr other) = (
    λ unset. absurd (false≢true (sym unset
        ∙ get_or-set_other middle merge.second node true false (λ same. other (sym same))
        ∙ ap (λ n. get_or middle n false) (sym first)
        ∙ get_or-set_same marks merge.first true false (omega (arith, there, first)))),
    λ all. absurd ((all_last (IsUnjoined node) merges merge all).0 first),
  )
  of_node node there (inr not_first) (inr other) =
      let kept : get_or after node false ≡ get_or marks node false =
      get_or-set_other middle merge.second node true false (λ same. other (sym same))
      ∙ get_or-set_other marks merge.first node true false (λ same. not_first (sym same)) in (
        λ unset. all_more (IsUnjoined node) merges merge
            ((before node there).0 (sym kept ∙ unset)) (not_first, other),
        λ all. kept ∙ (before node there).1 (all_before (IsUnjoined node) merges merge all),
      )

  -- so the marks are those of one merge more
  pub marks_more : AreMarked (merges ++ merge ∷ []) after
  marks_more node there = of_node node (omega (
    arith,
    there,
    length-set marks merge.first true,
    length-set middle merge.second true,
  )) (cases_eq merge.first node) (cases_eq merge.second node)
