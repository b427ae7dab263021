-- Files of a command, each judged after those before it: they tell one thing, and where they are
-- accepted none is refused.
use Rattle.cts_program.proofs.Vocabulary.{ℕ, ◌≡◌, ◌≤◌, ◌⊎◌, inl, inr, suc, List, [], ◌∷◌, ◌++◌, length, refl, ap, ap₂, sym, ◌∙◌, subst, arith, Failure, TooLong, FileKind, status_of, IsAcceptedAs, IsRefusedAs, Tell, RefusesFirst, Told}
use Rattle.cts_program.proofs.OneDocument.{ReportLaws, one_next, accepted_fine, refused_status}

-- ---- contents that agree

-- contents that are known of the same files, the first of each list being the same
abbrev pub Agree : List (List ℕ) → List (List ℕ) → Type 0
Agree [] others = Unit {0}
Agree (one ∷ more) [] = Unit {0}
Agree (one ∷ more) (other ∷ others) = (one ≡ other) × Agree more others

pub agree_same : (contents others : List (List ℕ)) → Agree contents others
    → length contents ≡ length others → contents ≡ others
agree_same [] [] agree as_long = refl
agree_same [] (other ∷ others) agree as_long = absurd (omega arith)
agree_same (one ∷ more) [] agree as_long = absurd (omega arith)
agree_same (one ∷ more) (other ∷ others) (same, agree) as_long =
    ap₂ (λ first rest. first ∷ rest) same (agree_same more others agree (omega arith))

-- agreement is symmetric
pub agree_rotated : (contents others : List (List ℕ)) → Agree contents others
    → Agree others contents
agree_rotated [] [] agree = tt
agree_rotated [] (other ∷ others) agree = tt
agree_rotated (one ∷ more) [] agree = tt
agree_rotated (one ∷ more) (other ∷ others) (same, agree) =
    (sym same, agree_rotated more others agree)

-- all contents agree with themselves
pub agree_self : (contents : List (List ℕ)) → Agree contents contents
agree_self [] = tt
agree_self (one ∷ more) = (refl, agree_self more)

-- ---- accepted, refused

-- files that tell something are as many as their contents
pub length-tell : (kinds : List FileKind) (before : Told) (contents : List (List ℕ)) (last : Told)
    → Tell kinds before contents last → length contents ≡ length kinds
length-tell [] before [] last tell = refl
length-tell [] before (bytes ∷ contents) last tell = absurd tell
length-tell (kind ∷ kinds) before [] last tell = absurd tell
length-tell (kind ∷ kinds) before (bytes ∷ contents) last (next, accepted, tell) =
    ap suc (length-tell kinds next contents last tell)

module _ (laws : ReportLaws) where
  -- files tell one thing
  pub one_telling : (kinds : List FileKind) (before : Told) (contents : List (List ℕ))
      (last other : Told) → Tell kinds before contents last → Tell kinds before contents other
      → last ≡ other
  one_telling [] before [] last other tell tell' = tell ∙ sym tell'
  one_telling [] before (bytes ∷ contents) last other tell tell' = absurd tell
  one_telling (kind ∷ kinds) before [] last other tell tell' = absurd tell
  one_telling (kind ∷ kinds) before (bytes ∷ contents) last other (next, accepted, tell)
      (next', accepted', tell') =
      let same = one_next laws kind before bytes next' next accepted' accepted in
      one_telling kinds next contents last other tell
      (subst (λ t. Tell kinds t contents other) same tell')

  -- where they do, none is refused, whatever more is known
  pub told_fine : (kinds : List FileKind) (before : Told) (contents known : List (List ℕ))
      (last : Told) (failure : Failure) → Agree contents known → Tell kinds before contents last
      → RefusesFirst kinds before known failure → ⊥
  told_fine [] before contents known last failure agree tell refuses = refuses
  told_fine (kind ∷ kinds) before [] known last failure agree tell refuses = absurd tell
  told_fine (kind ∷ kinds) before (bytes ∷ contents) [] last failure agree tell refuses =
      absurd refuses
  told_fine (kind ∷ kinds) before (bytes ∷ contents) (other ∷ known) last failure (same, agree)
      (next, accepted, tell) (inl refused) =
      accepted_fine laws kind before bytes next failure accepted
      (subst (λ b. IsRefusedAs kind before b failure) (sym same) refused)
  told_fine (kind ∷ kinds) before (bytes ∷ contents) (other ∷ known) last failure (same, agree)
      (next, accepted, tell) (inr (next', accepted', refuses)) =
      let one = one_next laws kind before bytes next' next
      (subst (λ b. IsAcceptedAs kind before b next') (sym same) accepted') accepted in
      told_fine kinds next contents known last failure agree tell
      (subst (λ t. RefusesFirst kinds t known failure) one refuses)

  -- of contents that agree the refusals have one status
  pub one_refusal : (kinds : List FileKind) (before : Told) (contents known : List (List ℕ))
      (failure other : Failure) → Agree contents known → RefusesFirst kinds before contents failure
      → RefusesFirst kinds before known other → status_of failure ≡ status_of other
  one_refusal [] before contents known failure other agree refuses refuses' = absurd refuses
  one_refusal (kind ∷ kinds) before [] known failure other agree refuses refuses' = absurd refuses
  one_refusal (kind ∷ kinds) before (bytes ∷ contents) [] failure other agree refuses refuses' =
      absurd refuses'
  one_refusal (kind ∷ kinds) before (bytes ∷ contents) (bytes' ∷ known) failure other (same, agree)
      (inl refused) (inl refused') =
      refused_status kind before bytes failure refused
      ∙ sym (refused_status kind before bytes' other refused')
  one_refusal (kind ∷ kinds) before (bytes ∷ contents) (bytes' ∷ known) failure other (same, agree)
      (inl refused) (inr (next', accepted', refuses')) =
      absurd (accepted_fine laws kind before bytes' next' failure accepted'
      (subst (λ b. IsRefusedAs kind before b failure) same refused))
  one_refusal (kind ∷ kinds) before (bytes ∷ contents) (bytes' ∷ known) failure other (same, agree)
      (inr (next, accepted, refuses)) (inl refused') =
      absurd (accepted_fine laws kind before bytes next other accepted
      (subst (λ b. IsRefusedAs kind before b other) (sym same) refused'))
  one_refusal (kind ∷ kinds) before (bytes ∷ contents) (bytes' ∷ known) failure other (same, agree)
      (inr (next, accepted, refuses)) (inr (next', accepted', refuses')) =
      let one = one_next laws kind before bytes next' next
      (subst (λ b. IsAcceptedAs kind before b next') (sym same) accepted') accepted in
      one_refusal kinds next contents known failure other agree refuses
      (subst (λ t. RefusesFirst kinds t known other) one refuses')

-- a refusal among more files is one of the first of them, whose contents are known, or has the
-- status of a kind of those after them
pub first_or_later : (kinds more : List FileKind) (before : Told) (contents known : List (List ℕ))
    (failure : Failure) → Agree contents known → length kinds ≤ length contents
    → RefusesFirst (kinds ++ more) before known failure → RefusesFirst kinds before contents failure
    ⊎ ((told : Told) × ((later : List (List ℕ)) × RefusesFirst more told later failure))
first_or_later [] more before contents known failure agree within refuses =
    inr (before, (known, refuses))
first_or_later (kind ∷ kinds) more before [] known failure agree within refuses =
    absurd (omega (arith, within))
first_or_later (kind ∷ kinds) more before (bytes ∷ contents) [] failure agree within refuses =
    absurd refuses
first_or_later (kind ∷ kinds) more before (bytes ∷ contents) (other ∷ known) failure (same, agree)
    within (inl refused) =
    inl (inl (subst (λ b. IsRefusedAs kind before b failure) (sym same) refused))
first_or_later (kind ∷ kinds) more before (bytes ∷ contents) (other ∷ known) failure (same, agree)
    within (inr (next, accepted, refuses)) =
    elim (first_or_later kinds more next contents known failure agree (omega
    (arith, within)) refuses) [
      | inl here ↦
          inl (inr (next, subst (λ b. IsAcceptedAs kind before b next) (sym same) accepted, here))
      | inr later ↦ inr later
    ]

-- a refusal has status 3 or 7
pub refusal_status : (kinds : List FileKind) (before : Told) (contents : List (List ℕ))
    (failure : Failure) → RefusesFirst kinds before contents failure
    → (kind : FileKind) × (status_of failure ≡ status_of (TooLong kind))
refusal_status [] before contents failure refuses = absurd refuses
refusal_status (kind ∷ kinds) before [] failure refuses = absurd refuses
refusal_status (kind ∷ kinds) before (bytes ∷ contents) failure (inl refused) =
    (kind, refused_status kind before bytes failure refused)
refusal_status (kind ∷ kinds) before (bytes ∷ contents) failure (inr (next, accepted, refuses)) =
    refusal_status kinds next contents failure refuses
