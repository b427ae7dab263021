-- What the causes of failures leave of the exit status.
use Rattle.cts_program.proofs.Vocabulary.{ℕ, ◌≡◌, ◌≢◌, ◌<◌, ◌≤◌, ◌⊎◌, inl, inr, List, [], ◌++◌, ◌∷◌, length, take, Option, Some, refl, ap, sym, ◌∙◌, subst, arith, append-nil, true, false, append_cancel_left, Command, IsCommand, Ending, ending_status, Failure, Usage, TooLong, Refused, WriteFault, FileKind, Report, status_of, words_failure_of, kinds_for, texts_for, IsAnswer, IsRefusal, IsAccepted, IsStatusOf, FindsNoPeriod, NamedFile, Request, Ask, request_of, AreDenoted, IsNoCommand, DenotesText, RefusesRequest, CannotRead, EndsInPart, Stops, refused, unread, wants_memory, Fails, usage, stops, unwritten, NoneRose, nothing}
use Rattle.std.proofs.Math.Dec.{eqb}
use Rattle.std.proofs.lemmas.Bool.Decides.{eqb_tells}
use Rattle.std.proofs.lemmas.List.Elements.{All-head, All-drop}
use Rattle.cts_io.specs.Device.{Rose, appended, WritesPrefix}
use Rattle.command_line.specs.declared.command.WordsFault.{WordsFault}
use Rattle.command_line.specs.declared.command.WordsFault.TheVariants as word_faults
use Rattle.answer_texts.specs.declared.answer.Ending.TheVariants.{Done, Never}
use Rattle.cts_program.proofs.DocumentLists.{Agree, refusal_status}
use Rattle.cts_program.proofs.OneAnswer.{answer_status, answer_prefix, answer_never, answer_found, answer_not_refused, refusals_alike, accepted_refusal, told_statuses}
use Rattle.cts_program.proofs.OneDocument.{ReportLaws, two_statuses}
use Rattle.cts_program.proofs.OneText.{some_text, text_status}
use Rattle.cts_program.proofs.SameRequests.{one_request, denoted_within, denoted_agree}

-- a file whose count rose is none of those whose counts didn't
none_rose_read : (reads reads_now : List ℕ → ℕ) (files prefix : List NamedFile)
    (file : NamedFile) (suffix : List NamedFile) → files ≡ prefix ++ file ∷ suffix
    → NoneRose reads reads_now files → Rose (reads file.1) (reads_now file.1) → ⊥
none_rose_read reads reads_now files [] file suffix is none_rose rose =
    All-head (λ (f : NamedFile). Rose (reads f.1) (reads_now f.1) → ⊥) file suffix
    (subst (NoneRose reads reads_now) is none_rose) rose
none_rose_read reads reads_now files (first ∷ prefix) file suffix is none_rose rose =
    none_rose_read reads reads_now (prefix ++ file ∷ suffix) prefix file suffix refl
    (All-drop (λ (f : NamedFile). Rose (reads f.1) (reads_now f.1) → ⊥) 1
    (first ∷ (prefix ++ file ∷ suffix)) (subst (NoneRose reads reads_now) is none_rose)) rose

-- what stands after the same bytes is the same
same_after : (before text other : List ℕ) → Some (before ++ text) ≡ Some (before ++ other)
    → text ≡ other
same_after before text other same = append_cancel_left before text other (cc same)

-- where nothing was written, the text isn't there
kept_lacks : (text prefix : List ℕ) (before now : Option (List ℕ)) → 0 < length text
    → before ≡ Some prefix → now ≡ before → now ≡ appended before text → ⊥
kept_lacks text prefix before now some is same whole =
    let there : now ≡ Some (prefix ++ text) = rw is at whole in
    let none : 0 ≡ length text = ap length (same_after prefix [] text
    (ap (λ b. Some b) (append-nil prefix) ∙ (sym is ∙ (sym same ∙ there)))) in
    omega arith

-- and a prefix of another text isn't the text
part_lacks : (text other prefix : List ℕ) (before now : Option (List ℕ))
    → ((count : ℕ) → text ≡ take count other → count < length other → ⊥) → before ≡ Some prefix
    → WritesPrefix before other now → now ≡ appended before text → ⊥
part_lacks text other prefix before now apart is part whole =
    let there : now ≡ Some (prefix ++ text) = rw is at whole in
    let cut : now ≡ Some (prefix ++ take part.count other) = rw is at part.written in
    let short = part.short in
    apart part.count (same_after prefix text (take part.count other) (sym there ∙ cut))
    (omega arith)

-- ---- what a failure's cause is

-- the status of a refusal
abbrev pub IsRefusalStatus : ℕ → Type 0
IsRefusalStatus status = (status ≡ 3) ⊎ (status ≡ 7)

-- no other is
not_refusal : (status other : ℕ) → IsRefusalStatus status → status ≡ other → (other ≡ 3 → ⊥)
    → (other ≡ 7 → ⊥) → ⊥
not_refusal status other (inl three) same not_three not_seven = not_three (sym same ∙ three)
not_refusal status other (inr seven) same not_three not_seven = not_seven (sym same ∙ seven)

-- a refusal has one
refuses_with : (holds : List ℕ → Option (List ℕ)) (request : Request)
    (failure : Failure) → RefusesRequest holds request failure → IsRefusalStatus (status_of failure)
refuses_with holds request failure refuses = at refuses.refusal
  where
    at : IsRefusal request refuses.contents failure → IsRefusalStatus (status_of failure)
    at (inl first) =
        let (kind, is) = refusal_status (kinds_for request.form request.files) nothing
        (texts_for request.form request.given refuses.contents) failure first in
        subst IsRefusalStatus (sym is) (two_statuses kind)
    at (inr (told, tells, here)) = told_statuses request.form told failure here

-- so what stops a command is no fault of its words
pub no_usage : (holds : List ℕ → Option (List ℕ)) (reads reads_now : List ℕ → ℕ)
    (request : Request) (failure : Failure) → Stops holds reads reads_now request failure
    → failure ≡ Usage → ⊥
no_usage holds reads reads_now request failure cause two = elim cause [
  | refused refuses ↦ not_refusal (status_of failure) 2
      (refuses_with holds request failure refuses) (ap status_of two) (λ e. cc e) (λ e. cc e)
  | unread kind is cannot ↦ let same = sym is ∙ two in cc same
  | wants_memory is ↦ let same = sym is ∙ two in cc same
]

module _ (laws : ReportLaws) (words : List (List ℕ)) (holds : List ℕ → Option (List ℕ))
    (reads reads_now : List ℕ → ℕ) (before now : Option (List ℕ)) (writes writes_now : ℕ)
    (failure : Failure)
    (fails : Fails words holds reads reads_now before now writes writes_now failure) where
  -- status 2 is that of words that mean nothing
  pub two_is_usage : status_of failure ≡ 2 → IsNoCommand words
  two_is_usage two = elim fails [
    | usage is none ↦ none
    | stops request ask cause ↦ elim cause [
      | refused refuses ↦ absurd (not_refusal (status_of failure) 2
          (refuses_with holds request failure refuses) two (λ e. cc e) (λ e. cc e))
      | unread kind is cannot ↦
          let other : status_of failure ≡ 4 = ap status_of is in absurd (omega arith)
      | wants_memory is ↦
          let other : status_of failure ≡ 6 = ap status_of is in absurd (omega arith)
    ]
    | unwritten is part rose ↦
        let other : status_of failure ≡ 5 = ap status_of is in absurd (omega arith)
  ]

  pub usage_is_two : IsNoCommand words → status_of failure ≡ 2
  usage_is_two none = elim fails [
    | usage is none' ↦ ap status_of is
    | stops request ask cause ↦ absurd (none ask.command ask.means)
    | unwritten is part rose ↦ absurd (none part.ask.command part.ask.means)
  ]

  -- statuses 3 and 7 are those of refusals
  pub refusal_given : IsRefusalStatus (status_of failure)
      → (request : Request) × Ask words request
      × ((other : Failure) × (status_of other ≡ status_of failure)
      × RefusesRequest holds request other)
  refusal_given of_refusal = elim fails [
    | usage is none ↦ absurd (no_refusal 2 (ap status_of is) (λ e. cc e) (λ e. cc e))
    | stops request ask cause ↦ elim cause [
      | refused refuses ↦ (request, ask, (failure, refl, refuses))
      | unread kind is cannot ↦
          absurd (no_refusal 4 (ap status_of is) (λ e. cc e) (λ e. cc e))
      | wants_memory is ↦ absurd (no_refusal 6 (ap status_of is) (λ e. cc e) (λ e. cc e))
    ]
    | unwritten is part rose ↦ absurd (no_refusal 5 (ap status_of is) (λ e. cc e) (λ e. cc e))
  ]
    where
      no_refusal : (other : ℕ) → status_of failure ≡ other → (other ≡ 3 → ⊥)
          → (other ≡ 7 → ⊥) → ⊥
      no_refusal other = not_refusal (status_of failure) other of_refusal

  -- status 4 is that of a file that can't be read
  pub four_is_unread : status_of failure ≡ 4 → (request : Request) × Ask words request
      × ((kind : FileKind) × CannotRead holds reads reads_now request.files kind)
  four_is_unread four = elim fails [
    | usage is none ↦ let other : status_of failure ≡ 2 = ap status_of is in absurd (omega arith)
    | stops request ask cause ↦ elim cause [
      | refused refuses ↦ absurd (not_refusal (status_of failure) 4
          (refuses_with holds request failure refuses) four (λ e. cc e) (λ e. cc e))
      | unread kind is cannot ↦ (request, ask, (kind, cannot))
      | wants_memory is ↦
          let other : status_of failure ≡ 6 = ap status_of is in absurd (omega arith)
    ]
    | unwritten is part rose ↦
        let other : status_of failure ≡ 5 = ap status_of is in absurd (omega arith)
  ]

  -- status 5 is that of an output that can't be written
  pub five_is_unwritten : status_of failure ≡ 5
      → EndsInPart words holds before now × Rose writes writes_now
  five_is_unwritten five = elim fails [
    | usage is none ↦ let other : status_of failure ≡ 2 = ap status_of is in absurd (omega arith)
    | stops request ask cause ↦ elim cause [
      | refused refuses ↦ absurd (not_refusal (status_of failure) 5
          (refuses_with holds request failure refuses) five (λ e. cc e) (λ e. cc e))
      | unread kind is cannot ↦
          let other : status_of failure ≡ 4 = ap status_of is in absurd (omega arith)
      | wants_memory is ↦
          let other : status_of failure ≡ 6 = ap status_of is in absurd (omega arith)
    ]
    | unwritten is part rose ↦ (part, rose)
  ]

  -- ---- where the files hold contents that are given

  module _ (request : Request) (ask : Ask words request) (contents : List (List ℕ))
      (denoted : AreDenoted holds request.files contents) where
    -- the words ask for nothing else
    here : (Holds : Request → Type 0) (other : Request) → Ask words other → Holds other
        → Holds request
    here Holds other ask' holds' = subst Holds (one_request words other request ask' ask) holds'

    -- a refusal leaves its status, unless a file can't be read or memory runs out
    pub refused_status : (other : Failure) → IsRefusal request contents other
        → (status_of failure ≡ status_of other)
        ⊎ ((status_of failure ≡ 4) ⊎ (status_of failure ≡ 6))
    refused_status other refusal = elim fails [
      | usage is none ↦ absurd (none ask.command ask.means)
      | stops request' ask' cause ↦ elim cause [
        | refused refuses' ↦
            let refuses = here (λ r. RefusesRequest holds r failure) request' ask' refuses' in
            inl (refusals_alike laws request contents refuses.contents other failure
            (denoted_agree holds request.files contents refuses.contents denoted refuses.are)
            refusal refuses.refusal)
        | unread kind is cannot ↦ inr (inl (ap status_of is))
        | wants_memory is ↦ inr (inr (ap status_of is))
      ]
      | unwritten is part rose ↦
          let denotes = here (λ r. DenotesText holds r part.status part.text) part.request part.ask
          part.denotes in
          absurd (answer_not_refused laws request contents denotes.contents other
          (denoted_agree holds request.files contents denotes.contents denoted denotes.are) refusal
          part.status part.text denotes.answer)
    ]

    -- what is accepted has a status for it, unless memory runs out, where no count rose
    pub accepted_status : IsAccepted request contents → NoneRose reads reads_now request.files
        → (Rose writes writes_now → ⊥)
        → IsStatusOf request.form (status_of failure) ⊎ (status_of failure ≡ 6)
    accepted_status accepted none_rose wrote = elim fails [
      | usage is none ↦ absurd (none ask.command ask.means)
      | stops request' ask' cause ↦ elim cause [
        | refused refuses' ↦
            let refuses = here (λ r. RefusesRequest holds r failure) request' ask' refuses' in
            let agree =
            denoted_agree holds request.files contents refuses.contents denoted refuses.are in
            let within = denoted_within holds request.files contents denoted in
            inl (subst (λ r. IsStatusOf r.form (status_of failure)) (sym ask.asks)
            (accepted_refusal ask.command contents refuses.contents failure agree
            (subst (λ r. length contents ≤ length r.files) ask.asks within)
            (subst (λ r. IsAccepted r contents) ask.asks accepted)
            (subst (λ r. IsRefusal r refuses.contents failure) ask.asks refuses.refusal)))
        | unread kind is cannot' ↦
            let cannot = here (λ r. CannotRead holds reads reads_now r.files kind) request' ask'
            cannot' in
            absurd (none_rose_read reads reads_now request.files cannot.prefix (kind, cannot.file)
            cannot.suffix cannot.files_are none_rose cannot.rose)
        | wants_memory is ↦ inr (ap status_of is)
      ]
      | unwritten is part rose ↦ absurd (wrote rose)
    ]

    -- the text of an answer doesn't stand whole where the command line failed
    pub lacks_text : (status : ℕ) (text prefix : List ℕ) → IsAnswer request contents status text
        → (failure ≢ WriteFault → now ≡ before) → before ≡ Some prefix → now ≡ appended before text
        → ⊥
    lacks_text status text prefix answer kept is whole = elim fails [
      | usage is' none ↦ absurd (none ask.command ask.means)
      | stops request' ask' cause ↦ elim cause [
        | refused refuses ↦ kept_lacks text prefix before now some is (kept (λ same.
            not_refusal (status_of failure) 5 (refuses_with holds request' failure refuses)
            (ap status_of same) (λ e. cc e) (λ e. cc e))) whole
        | unread kind is' cannot ↦ kept_lacks text prefix before now some is
            (kept (not_write 4 (ap status_of is') (λ e. cc e))) whole
        | wants_memory is' ↦ kept_lacks text prefix before now some is
            (kept (not_write 6 (ap status_of is') (λ e. cc e))) whole
      ]
      | unwritten is' part rose ↦
          let denotes = here (λ r. DenotesText holds r part.status part.text) part.request part.ask
          part.denotes in
          part_lacks text part.text prefix before now
          (answer_prefix laws request contents denotes.contents
          (denoted_agree holds request.files contents denotes.contents denoted denotes.are)
          status text answer part.status part.text denotes.answer) is part.prefix whole
    ]
      where
        some : 0 < length text
        some = some_text request.form request.given answer.told status text answer.says

        not_write : (status : ℕ) → status_of failure ≡ status → (status ≡ 5 → ⊥)
            → failure ≢ WriteFault
        not_write status is apart same = apart (sym is ∙ ap status_of same)

-- ---- where a text stands whole

module _ (laws : ReportLaws) (holds : List ℕ → Option (List ℕ)) (request : Request)
    (contents : List (List ℕ)) (denoted : AreDenoted holds request.files contents) (status : ℕ)
    (text : List ℕ) (denotes : DenotesText holds request status text) where
  agree : Agree contents denotes.contents
  agree = denoted_agree holds request.files contents denotes.contents denoted denotes.are

  -- it has the status of the answer
  pub denoted_status : (other : ℕ) (text' : List ℕ) → IsAnswer request contents other text'
      → status ≡ other
  denoted_status other text' answer =
      answer_status laws request contents denotes.contents agree other text' answer status text
      denotes.answer

  -- with 1 no period is admitted, and with 0 some is
  pub denoted_never : length contents ≡ length request.files → status ≡ 1
      → FindsNoPeriod request contents
  denoted_never all one =
      answer_never laws request contents denotes.contents agree all status text one denotes.answer

  pub denoted_found : FindsNoPeriod request contents → status ≡ 0 → ⊥
  denoted_found finds done =
      answer_found laws request contents denotes.contents agree finds status text done
      denotes.answer

  -- and nothing is refused
  pub denoted_fine : (failure : Failure) → IsRefusal request contents failure → ⊥
  denoted_fine failure refusal =
      answer_not_refused laws request contents denotes.contents failure agree refusal status text
      denotes.answer

-- a command line that is done has a status of its command
pub done_status : (holds : List ℕ → Option (List ℕ)) (request : Request) (ending : Ending)
    (text : List ℕ) → DenotesText holds request (ending_status ending) text
    → IsStatusOf request.form (ending_status ending)
done_status holds request ending text denotes =
    text_status request.form request.given denotes.answer.told ending text denotes.answer.says

-- ---- statuses

-- a command that answers doesn't end with status 2
pub not_two : (ending : Ending) → ending_status ending ≡ 2 → ⊥
not_two Done two = omega arith
not_two Never two = omega arith

-- and one that fails with neither 0 nor 1
pub no_ending : (failure : Failure) (status : ℕ) → status_of failure ≡ status → status < 2 → ⊥
no_ending (TooLong Report) status is few = omega (arith, is, few)
no_ending (Refused Report number words) status is few = omega (arith, is, few)
no_ending failure status is few = omega (arith, is, few)

-- where a count is greater that no failure but a fault moves, the status is that of the fault
pub fault_status : (failure : Failure) (status : ℕ) (IsFault : Type 0)
    → (IsFault → status_of failure ≡ status) → (before now : ℕ)
    → ((IsFault → ⊥) → now ≡ before) → before < now → status_of failure ≡ status
fault_status failure status IsFault is_fault before now stays more =
    at (eqb_tells (status_of failure) status)
  where
    at : ((eqb (status_of failure) status ≡ true) × (status_of failure ≡ status))
        ⊎ ((eqb (status_of failure) status ≡ false) × (status_of failure ≢ status))
        → status_of failure ≡ status
    at (inl (test, is)) = is
    at (inr (test, differs)) =
        let same = stays (λ fault. differs (is_fault fault)) in absurd (omega (arith, same, more))

-- a fault of the words is a failure of the command line
pub words_fail : (words : List (List ℕ)) (holds : List ℕ → Option (List ℕ))
    (reads reads_now : List ℕ → ℕ) (before now : Option (List ℕ)) (writes writes_now : ℕ)
    (fault : WordsFault) → (fault ≡ word_faults.Usage → IsNoCommand words)
    → (fault ≡ word_faults.NoMemory → (command : Command) × IsCommand words command)
    → Fails words holds reads reads_now before now writes writes_now (words_failure_of fault)
words_fail words holds reads reads_now before now writes writes_now word_faults.Usage none some =
    usage refl (none refl)
words_fail words holds reads reads_now before now writes writes_now word_faults.NoMemory none some =
    let (command, means) = some refl in
    stops (request_of command) (record { command = command; means = means; asks = refl })
    (wants_memory refl)
