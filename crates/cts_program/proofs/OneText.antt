-- The texts for what a command is told have one status, none is a prefix of another, and the status
-- says whether a period is admitted.
use Rattle.cts_program.proofs.Vocabulary.{ℕ, ◌≡◌, ◌<◌, ◌⊎◌, inl, inr, false, List, length, take, refl, subst, Circuit, Tech, Form, Given, Ending, ending_status, number_given, value_given, IsText, IsStatusOf, AdmitsNone, Told, bare, placed, reported, joined, moving, IsTimedSo, TellsCircuit, TellsTech}
use Rattle.cts_model.specs.Vocabulary.{HasNoPeriod}
use Rattle.command_line.specs.declared.table.Form.TheVariants as forms
use Rattle.corners.specs.CommonPeriods.{HasNoCommonPeriod}
use Rattle.answer_texts.specs.declared.answer.Ending.TheVariants as endings
use Rattle.answer_texts.proofs.AnswerTexts.{zero_text, period_text, schedule_text, check_text, synth_text, embed_text, margin_text, moves_text, demo_text, corners_text}
use Rattle.answer_texts.proofs.CountedTexts.{looks_for_period, IsTextWith}
use Rattle.answer_texts.proofs.OneText as texts
use Rattle.cts_program.proofs.OneDocument.{one_circuit, one_tech}

-- ---- what a text says

-- how many moves are given
abbrev moves_of : Form → Told → ℕ
moves_of forms.Moves (moving problem moves) = length moves
moves_of form told = 0

-- the text is one for the circuit that is told, where this is what it comes to that no period is
-- admitted
record IsToldText (moves : ℕ) (form : Form) (None : Type 0) (told : Told) (status : ℕ)
    (text : List ℕ) : Type 0 where
  circuit : Circuit
  tells : TellsCircuit told circuit
  is : IsTextWith moves form None circuit status text

-- what holds of what is told holds of the circuit and the delays that it tells
of_one : {told : Told} {Holds : Circuit → Tech → Type 0} (circuit : Circuit) (tech : Tech)
    → TellsCircuit told circuit → TellsTech told tech → IsTimedSo told Holds → Holds circuit tech
of_one {told} {Holds} circuit tech tells delays so =
    subst (λ t. Holds circuit t) (one_tech told so.tech tech so.delays delays)
    (subst (λ c. Holds c so.tech) (one_circuit told so.circuit circuit so.tells tells) so.holds)

-- so is one for the circuit and the delays that are told
timed : {moves : ℕ} {form : Form} {told : Told} {status : ℕ} {text : List ℕ} (circuit : Circuit)
    (tech : Tech) → TellsCircuit told circuit → TellsTech told tech
    → IsTextWith moves form (HasNoPeriod circuit tech) circuit status text
    → IsToldText moves form (IsTimedSo told HasNoPeriod) told status text
timed circuit tech tells delays is = record {
  circuit = circuit;
  tells = tells;
  is = texts.with_none is _ (λ none. record {
    circuit = circuit;
    tech = tech;
    tells = tells;
    delays = delays;
    holds = none;
  }) (of_one circuit tech tells delays);
}

-- the text of a command is one
told_text : (form : Form) (given : List Given) (told : Told) (status : ℕ) (text : List ℕ)
    → IsText form given told status text
    → IsToldText (moves_of form told) form (AdmitsNone form told) told status text
told_text forms.Zero given told status text (done, so) = record {
  circuit = so.circuit;
  tells = so.tells;
  is = zero_text so.circuit so.tech ⊥ status text done so.holds;
}
told_text forms.Check given (reported problem report) status text (done, so) = record {
  circuit = problem.circuit;
  tells = refl;
  is = check_text problem.circuit problem.tech ⊥ status text done so.spelled;
}
told_text forms.Margin given told status text (done, so) = record {
  circuit = so.circuit;
  tells = so.tells;
  is = margin_text so.circuit so.tech ⊥ (value_given given 2) status text done so.holds;
}
told_text forms.Period given told status text so =
    timed so.circuit so.tech so.tells so.delays
    (period_text so.circuit so.tech status text so.holds)
told_text forms.Schedule given told status text so =
    timed so.circuit so.tech so.tells so.delays
    (schedule_text so.circuit so.tech status text so.holds)
told_text forms.Synth given (placed problem) status text so =
    timed problem.circuit problem.tech refl refl (synth_text problem status text so)
told_text forms.Demo given (placed problem) status text so =
    timed problem.circuit problem.tech refl refl
    (demo_text problem (number_given given 0) status text so)
told_text forms.Embed given (joined problem topology) status text so =
    timed problem.circuit problem.tech refl refl (embed_text problem topology status text so)
told_text forms.Moves given (moving problem moves) status text so =
    timed problem.circuit problem.tech refl refl (moves_text problem moves status text so)
told_text forms.Corners given (bare only techs) status text (circuit, tells, so) = record {
  circuit = circuit;
  tells = tells;
  is = texts.with_none (corners_text circuit techs status text so) _
      (λ none. (circuit, tells, none))
      (λ none. subst (λ c. HasNoCommonPeriod c techs)
      (one_circuit (bare only techs) none.0 circuit none.1 tells) none.2);
}
told_text form given told status text so = absurd so

-- a command that looks for no period finds none
looks_or_not : (form : Form) (told : Told) → looks_for_period form ≡ false → AdmitsNone form told
    → ⊥
looks_or_not forms.Zero told looks none = none
looks_or_not forms.Check told looks none = none
looks_or_not forms.Margin told looks none = none
looks_or_not form told looks none = cc looks

-- ---- one status, and no text that is a prefix of another

module _ (form : Form) (given : List Given) (told : Told) (status : ℕ) (text : List ℕ)
    (so : IsText form given told status text) where
  here : IsToldText (moves_of form told) form (AdmitsNone form told) told status text
  here = told_text form given told status text so

  -- a text has a line
  pub some_text : 0 < length text
  some_text = texts.some_text here.is

  -- a status of 1 says that no period is admitted
  pub finds_none : status ≡ 1 → AdmitsNone form told
  finds_none = texts.finds_none here.is

  -- and one of 0 that some is, or that the command looks for none
  pub finds_some : status ≡ 0 → AdmitsNone form told → ⊥
  finds_some done none = elim (texts.finds_some here.is done) [
    | inl looks ↦ looks_or_not form told looks none
    | inr some ↦ some none
  ]

  module _ (status' : ℕ) (text' : List ℕ) (so' : IsText form given told status' text') where
    there : IsTextWith (moves_of form told) form (AdmitsNone form told) here.circuit status' text'
    there =
        let other = told_text form given told status' text' so' in
        subst (λ c. IsTextWith (moves_of form told) form (AdmitsNone form told) c status' text')
        (one_circuit told other.circuit here.circuit other.tells here.tells) other.is

    -- another text has the same status
    pub one_status : status ≡ status'
    one_status = texts.one_status here.is there

    -- and this isn't a prefix of it
    pub no_answer_prefix : (count : ℕ) → text ≡ take count text' → count < length text' → ⊥
    no_answer_prefix = texts.no_answer_prefix here.is there

-- ---- the statuses of a command

-- how a command ends is determined by 0 or 1
done_or_never : (ending : Ending) → (ending_status ending ≡ 0) ⊎ (ending_status ending ≡ 1)
done_or_never endings.Done = inl refl
done_or_never endings.Never = inr refl

-- a command's text has a status of the command
pub text_status : (form : Form) (given : List Given) (told : Told) (ending : Ending)
    (text : List ℕ) → IsText form given told (ending_status ending) text
    → IsStatusOf form (ending_status ending)
text_status forms.Zero given told ending text so = so.0
text_status forms.Check given (reported problem report) ending text so = inl so.0
text_status forms.Check given told ending text so = absurd so
text_status forms.Margin given told ending text so = so.0
text_status form given told ending text so = done_or_never ending
