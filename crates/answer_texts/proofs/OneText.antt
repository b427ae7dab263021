-- Two texts of one command have one status, and neither is a prefix of the other.
use Rattle.answer_texts.proofs.Vocabulary.{◌≡◌, ◌<◌, ◌⊎◌, inl, inr, ℕ, Bool, true, false, List, length, take, ap, sym, ◌∙◌, subst, refl, arith, Circuit, Form}
use Rattle.answer_texts.proofs.CountedTexts.{looks_for_period, SaysOfPeriods, IsCounted, one_plan, IsTextWith}
use Rattle.answer_texts.proofs.LinePrefixes.{no_prefix, some_text_of}

-- what a status says it says of all that comes to the same
says_too : (looks : Bool) (None Other : Type 0) (status : ℕ) → (None → Other) → (Other → None)
    → SaysOfPeriods looks None status → SaysOfPeriods looks Other status
says_too false None Other status so back done = done
says_too true None Other status so back (inl (done, some)) =
    inl (done, λ none. some (back none))
says_too true None Other status so back (inr (never, none)) = inr (never, so none)

-- two that say the same are one
one_says : (looks : Bool) (None : Type 0) (status other : ℕ) → SaysOfPeriods looks None status
    → SaysOfPeriods looks None other → status ≡ other
one_says false None status other done done' = done ∙ sym done'
one_says true None status other (inl some) (inl some') = some.0 ∙ sym some'.0
one_says true None status other (inl some) (inr none) = absurd (some.1 none.1)
one_says true None status other (inr none) (inl some) = absurd (some.1 none.1)
one_says true None status other (inr none) (inr none') = none.0 ∙ sym none'.0

-- a status of 1 says that none is admitted
says_none : (looks : Bool) (None : Type 0) → SaysOfPeriods looks None 1 → None
says_none false None done = absurd (omega (arith, done))
says_none true None (inl some) = absurd (omega (arith, some.0))
says_none true None (inr none) = none.1

-- one of 0 that some is, or that the command looks for none
says_some : (looks : Bool) (None : Type 0) → SaysOfPeriods looks None 0
    → (looks ≡ false) ⊎ (None → ⊥)
says_some false None done = inl refl
says_some true None (inl some) = inr some.1
says_some true None (inr never) = absurd (omega (arith, never.0))

module _ {moves : ℕ} {form : Form} {None : Type 0} {circuit : Circuit} {status : ℕ}
    {text : List ℕ} (here : IsTextWith moves form None circuit status text) where
  -- a text has a line
  pub some_text : 0 < length text
  some_text =
      subst (λ bytes. 0 < length bytes) (sym here.spelled) (some_text_of here.lines here.some)

  -- it says the same of what comes to the same
  pub with_none : (Other : Type 0) → (None → Other) → (Other → None)
      → IsTextWith moves form Other circuit status text
  with_none Other so back = record {
    lines = here.lines;
    each = here.each;
    some = here.some;
    counted = here.counted;
    says = says_too (looks_for_period form) None Other status so back here.says;
    spelled = here.spelled;
  }

  -- with status 1 none is admitted
  pub finds_none : status ≡ 1 → None
  finds_none never =
      says_none (looks_for_period form) None
      (subst (SaysOfPeriods (looks_for_period form) None) never here.says)

  -- with 0 some is, or the command looks for none
  pub finds_some : status ≡ 0 → (looks_for_period form ≡ false) ⊎ (None → ⊥)
  finds_some done =
      says_some (looks_for_period form) None
      (subst (SaysOfPeriods (looks_for_period form) None) done here.says)

  module _ {status' : ℕ} {text' : List ℕ}
      (there : IsTextWith moves form None circuit status' text') where
    -- another text has the same status
    pub one_status : status ≡ status'
    one_status =
        one_says (looks_for_period form) None status status' here.says there.says

    -- and this isn't a prefix of it
    pub no_answer_prefix : (count : ℕ) → text ≡ take count text' → count < length text' → ⊥
    no_answer_prefix count cut short =
        let same = subst (λ s. IsCounted moves form s circuit there.lines) (sym one_status)
        there.counted in
        let (plan, counted, counted') = one_plan moves form status circuit here.lines there.lines
        here.counted same in
        no_prefix here.lines there.lines count here.each there.each counted counted'
        (sym here.spelled ∙ cut ∙ ap (take count) there.spelled)
        (subst (λ bytes. count < length bytes) there.spelled short)
