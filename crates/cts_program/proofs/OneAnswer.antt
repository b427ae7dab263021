-- What is asked for is answered with one status on the same contents, or refused with one, and not
-- both.
use Rattle.cts_program.proofs.Vocabulary.{ℕ, ◌≡◌, ◌≢◌, ◌<◌, ◌≤◌, ◌⊎◌, inl, inr, List, [], ◌∷◌, length, take, refl, ap, sym, ◌∙◌, subst, append-nil, arith, length-map, Reason, Command, Check, Demo, Form, command_form, Given, Failure, status_of, kinds_for, texts_for, judged_kinds, Tells, IsUnshown, RefusesTold, IsText, IsAnswer, IsRefusal, IsAccepted, IsStatusOf, FindsNoPeriod, RefusesFirst, NamedFile, Request, request_of, Told, nothing, reported}
use Rattle.cert_check.proofs.JudgedLemmas.{exactly_shown}
use Rattle.command_line.specs.declared.table.Form.TheVariants as forms
use Rattle.failure_lines.specs.declared.file_kind.FileKind.TheVariants as kinds
use Rattle.cts_program.proofs.DocumentLists.{Agree, agree_same, agree_rotated, agree_self, one_telling, told_fine, one_refusal, first_or_later}
use Rattle.cts_program.proofs.OneDocument.{ReportLaws, refused_status}
use Rattle.cts_program.proofs.OneText.{one_status, no_answer_prefix, finds_none, finds_some}

-- where contents agree, so does what a command goes by
texts_agree : (form : Form) (given : List Given) (contents known : List (List ℕ))
    → Agree contents known → Agree (texts_for form given contents) (texts_for form given known)
texts_agree forms.Demo given contents known agree = agree_self (texts_for forms.Demo given contents)
texts_agree form given contents known agree = agree

-- ---- one status of refusals

-- the status where all files are accepted
told_status : Form → ℕ
told_status forms.Check = 7
told_status form = 3

refusal_told : (form : Form) (told : Told) (failure : Failure) → RefusesTold form told failure
    → status_of failure ≡ told_status form
unfolding told_status
refusal_told forms.Check told failure (inl (pairs, many)) = absurd many
refusal_told forms.Check (reported problem report) failure (inr (reason, is, verdict)) =
    ap status_of is
refusal_told forms.Check told failure (inr unshown) = absurd unshown
refusal_told form told failure (inl (pairs, many)) = ap status_of pairs
refusal_told form told failure (inr unshown) = absurd unshown

pub told_statuses : (form : Form) (told : Told) (failure : Failure)
    → RefusesTold form told failure → (status_of failure ≡ 3) ⊎ (status_of failure ≡ 7)
unfolding told_status
told_statuses forms.Check told failure refuses =
    inr (refusal_told forms.Check told failure refuses)
told_statuses form told failure refuses = inl (refusal_told form told failure refuses)

-- ---- the same contents

module _ (laws : ReportLaws) (request : Request) where
  -- what is told by contents is told by others that agree with them
  same_told : (contents known : List (List ℕ)) (told other : Told) → Agree contents known
      → Tells request contents told → Tells request known other → told ≡ other
  same_told contents known told other agree tells tells' =
      let same = agree_same contents known agree (tells.all ∙ sym tells'.all) in
      one_telling laws (kinds_for request.form request.files) nothing
      (texts_for request.form request.given contents) told other tells.tell
      (subst (λ c. Tells request c other) (sym same) tells').tell

  -- so is a text
  text_there : (contents known : List (List ℕ)) (told : Told) (status : ℕ) (text : List ℕ)
      → Agree contents known → Tells request contents told
      → (answer : IsAnswer request known status text)
      → IsText request.form request.given told status text
  text_there contents known told status text agree tells answer =
      subst (λ t. IsText request.form request.given t status text)
      (sym (same_told contents known told answer.told agree tells answer.tells)) answer.says

  -- answers have one status, and none is a prefix of another
  pub answer_status : (contents known : List (List ℕ)) → Agree contents known → (status : ℕ)
      (text : List ℕ) → IsAnswer request contents status text → (status' : ℕ) (text' : List ℕ)
      → IsAnswer request known status' text' → status' ≡ status
  answer_status contents known agree status text answer status' text' other =
      sym (one_status request.form request.given answer.told status text answer.says status' text'
      (text_there contents known answer.told status' text' agree answer.tells other))

  pub answer_prefix : (contents known : List (List ℕ)) → Agree contents known → (status : ℕ)
      (text : List ℕ) → IsAnswer request contents status text → (status' : ℕ) (text' : List ℕ)
      → IsAnswer request known status' text' → (count : ℕ) → text ≡ take count text'
      → count < length text' → ⊥
  answer_prefix contents known agree status text answer status' text' other =
      no_answer_prefix request.form request.given answer.told status text answer.says status' text'
      (text_there contents known answer.told status' text' agree answer.tells other)

  -- with status 1 they say that no period is admitted, and with status 0 that some is
  pub answer_never : (contents known : List (List ℕ)) → Agree contents known
      → length contents ≡ length request.files → (status : ℕ) (text : List ℕ) → status ≡ 1
      → IsAnswer request known status text → FindsNoPeriod request contents
  answer_never contents known agree all status text one answer =
      let same = agree_same contents known agree (all ∙ sym answer.tells.all) in
      record {
        told = answer.told;
        tells = subst (λ c. Tells request c answer.told) (sym same) answer.tells;
        few = answer.few;
        none = finds_none request.form request.given answer.told status text answer.says one;
      }

  pub answer_found : (contents known : List (List ℕ)) → Agree contents known
      → FindsNoPeriod request contents → (status : ℕ) (text : List ℕ) → status ≡ 0
      → IsAnswer request known status text → ⊥
  answer_found contents known agree finds status text done answer =
      finds_some request.form request.given finds.told status text
      (text_there contents known finds.told status text agree finds.tells answer) done finds.none

  -- ---- not both

  -- a report that is shown has no reason against it
  shown_or_not : (form : Form) (told : Told) (status : ℕ) (text : List ℕ) (failure : Failure)
      → IsText form request.given told status text → IsUnshown form told failure → ⊥
  shown_or_not forms.Check (reported problem report) status text failure (done, says)
      (reason, is, verdict) = cc ((exactly_shown problem report verdict).1
      ((exactly_shown problem report says.shown).0 refl))
  shown_or_not form told status text failure says unshown = absurd unshown

  -- what is answered isn't refused
  pub answer_not_refused : (contents known : List (List ℕ)) (failure : Failure)
      → Agree contents known → IsRefusal request contents failure → (status : ℕ) (text : List ℕ)
      → IsAnswer request known status text → ⊥
  answer_not_refused contents known failure agree (inl first) status text answer =
      told_fine laws (kinds_for request.form request.files) nothing
      (texts_for request.form request.given known) (texts_for request.form request.given contents)
      answer.told failure
      (texts_agree request.form request.given known contents (agree_rotated contents known agree))
      answer.tells.tell first
  answer_not_refused contents known failure agree (inr (told, tells, refuses)) status text answer =
      at (subst (λ t. RefusesTold request.form t failure)
      (same_told contents known told answer.told agree tells answer.tells) refuses)
    where
      at : RefusesTold request.form answer.told failure → ⊥
      at (inl (pairs, many)) = answer.few many
      at (inr unshown) =
          shown_or_not request.form answer.told status text failure answer.says unshown

  -- all refusals have one status
  pub refusals_alike : (contents known : List (List ℕ)) (failure other : Failure)
      → Agree contents known → IsRefusal request contents failure
      → IsRefusal request known other → status_of other ≡ status_of failure
  refusals_alike contents known failure other agree (inl first) (inl first') =
      sym (one_refusal laws (kinds_for request.form request.files) nothing
      (texts_for request.form request.given contents) (texts_for request.form request.given known)
      failure other (texts_agree request.form request.given contents known agree) first first')
  refusals_alike contents known failure other agree (inl first) (inr (told, tells, refuses)) =
      absurd (told_fine laws (kinds_for request.form request.files) nothing
      (texts_for request.form request.given known) (texts_for request.form request.given contents)
      told failure
      (texts_agree request.form request.given known contents (agree_rotated contents known agree))
      tells.tell first)
  refusals_alike contents known failure other agree (inr (told, tells, refuses)) (inl first) =
      absurd (told_fine laws (kinds_for request.form request.files) nothing
      (texts_for request.form request.given contents) (texts_for request.form request.given known)
      told other (texts_agree request.form request.given contents known agree) tells.tell first)
  refusals_alike contents known failure other agree (inr (told, tells, refuses))
      (inr (told', tells', refuses')) =
      refusal_told request.form told' other refuses'
      ∙ sym (refusal_told request.form told failure refuses)

-- ---- beside what is accepted

-- all files that are judged are accepted, so the refusal is of pairs
judged_all : (request : Request) (contents known : List (List ℕ)) (failure : Failure)
    → judged_kinds request.form request.files ≡ kinds_for request.form request.files
    → (length contents ≤ length request.files → length known ≡ length request.files
    → length contents ≡ length known) → length contents ≤ length request.files
    → Agree contents known → IsAccepted request contents → IsRefusal request known failure
    → (told : Told) × IsUnshown request.form told failure
judged_all request contents known failure judged whole within agree accepted (inl first) =
    elim (first_or_later (judged_kinds request.form request.files) [] nothing
    (texts_for request.form request.given contents) (texts_for request.form request.given known)
    failure (texts_agree request.form request.given contents known agree) accepted.known
    (subst (λ kinds. RefusesFirst kinds nothing (texts_for request.form request.given known)
    failure)
    (sym (append-nil (judged_kinds request.form request.files) ∙ judged)) first)) [
      | inl here ↦ absurd (accepted.fine failure here)
      | inr later ↦ absurd later.1.1
    ]
judged_all request contents known failure judged whole within agree accepted
    (inr (told, tells, inl (pairs, many))) =
    let same = agree_same contents known agree (whole within tells.all) in
    absurd (accepted.few told (subst (λ c. Tells request c told) (sym same) tells) many)
judged_all request contents known failure judged whole within agree accepted
    (inr (told, tells, inr unshown)) = (told, unshown)

-- a report isn't shown only where one is checked
unshown_check : (form : Form) (told : Told) (failure : Failure) → form ≢ forms.Check
    → IsUnshown form told failure → ⊥
unshown_check forms.Check told failure other unshown = other refl
unshown_check form told failure other unshown = absurd unshown

-- so, but for a report, there is no refusal
pub accepted_refusal : (command : Command) (contents known : List (List ℕ)) (failure : Failure)
    → Agree contents known → length contents ≤ length (request_of command).files
    → IsAccepted (request_of command) contents → IsRefusal (request_of command) known failure
    → IsStatusOf (request_of command).form (status_of failure)
unfolding request_of
accepted_refusal (Check bench tech pl report) contents known failure agree within accepted
    (inl first) =
    elim (first_or_later (kinds.Bench ∷ kinds.Tech ∷ kinds.Placement ∷ []) (kinds.Report ∷ [])
    nothing contents known failure agree accepted.known first) [
      | inl here ↦ absurd (accepted.fine failure here)
      | inr later ↦ inr (at later.0 later.1.0 later.1.1)
    ]
  where
    at : (told : Told) (later : List (List ℕ))
        → RefusesFirst (kinds.Report ∷ []) told later failure → status_of failure ≡ 7
    at told [] refuses = absurd refuses
    at told (bytes ∷ later) (inl refused) = refused_status kinds.Report told bytes failure refused
    at told (bytes ∷ later) (inr (next, read, refuses)) = absurd refuses
accepted_refusal (Check bench tech pl report) contents known failure agree within accepted
    (inr (told, tells, inl (pairs, many))) = absurd many
accepted_refusal (Check bench tech pl report) contents known failure agree within accepted
    (inr (told, tells, inr unshown)) = inr (at told unshown)
  where
    at : (told : Told) → IsUnshown forms.Check told failure → status_of failure ≡ 7
    at (reported problem here) (reason, is, verdict) =
        ap status_of is
    at told unshown = absurd unshown
accepted_refusal (Demo registers seed) contents known failure agree within accepted refusal =
    let (told, unshown) = judged_all (request_of (Demo registers seed)) contents known failure refl
    (λ within all. omega (arith, within, all)) within agree accepted refusal in
    absurd (unshown_check forms.Demo told failure (λ same. cc same) unshown)
accepted_refusal command contents known failure agree within accepted refusal =
    let (told, unshown) = judged_all (request_of command) contents known failure refl
    (λ within all. omega (
      arith,
      within,
      all,
      accepted.known,
      length-map (request_of command).files (λ (file : NamedFile). file.0),
    )) within agree accepted
    refusal in
    absurd (unshown_check (command_form command) told failure (λ same. cc same) unshown)
