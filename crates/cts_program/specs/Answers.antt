-- What a command answers where its files have these contents: a text, or the first refusal.
use Rattle.std.specs.Prelude.{◌≡◌, ◌≤◌, ◌⊎◌, ◌==◌, ◌||◌, ℕ, Bool, List, [], ◌∷◌, length, map, take, get_or}
use Rattle.cts_model.specs.declared.circuit.Circuit.{Circuit}
use Rattle.cts_model.specs.Vocabulary.{HasNoPeriod, JoinsMoreThan}
use Rattle.corners.specs.CommonPeriods.{HasNoCommonPeriod}
use Rattle.cert_check.specs.declared.verdict.Reason.{Reason}
use Rattle.cert_check.specs.declared.verdict.Verdict.TheVariants.{Not}
use Rattle.cert_check.specs.Verdicts.{IsVerdict}
use Rattle.command_line.specs.declared.table.Form.{Form}
use Rattle.command_line.specs.declared.table.Form.TheVariants.{Zero, Period, Schedule, Synth, Check, Demo, Margin, Embed, Moves, Corners}
use Rattle.command_line.specs.Commands.{Given, numeral_value}
use Rattle.failure_lines.specs.declared.failure.Failure.{Failure}
use Rattle.failure_lines.specs.declared.failure.Failure.TheVariants.{Pairs}
use Rattle.failure_lines.specs.declared.file_kind.FileKind.{FileKind}
use Rattle.failure_lines.specs.declared.file_kind.FileKind.TheVariants.{Bench, Tech, Placement}
use Rattle.failure_lines.specs.Refusals.{reason_failure_of}
use Rattle.answer_texts.specs.CheckTexts.{IsCheckText}
use Rattle.answer_texts.specs.CornerTexts.{IsCornersText}
use Rattle.answer_texts.specs.DemoTexts.{IsDemoText}
use Rattle.cts_program.specs.DemoFiles.{demo_texts}
use Rattle.cts_program.specs.Documents.{Tell, RefusesFirst}
use Rattle.cts_program.specs.Files.{NamedFile, Request}
use Rattle.answer_texts.specs.MarginTexts.{IsMarginText}
use Rattle.answer_texts.specs.MoveTexts.{IsMovesText}
use Rattle.answer_texts.specs.PeriodTexts.{IsPeriodText}
use Rattle.answer_texts.specs.ScheduleTexts.{IsScheduleText}
use Rattle.answer_texts.specs.SynthTexts.{IsSynthText, IsEmbedText}
use Rattle.answer_texts.specs.ZeroTexts.{IsZeroText}
use Rattle.cts_program.specs.Told.{Told, nothing, bare, placed, reported, joined, moving, TellsCircuit, IsTimedSo}

-- ---- what a command goes by

-- the value of an option, and the number that it spells
abbrev pub value_given : List Given → (place : ℕ) → List ℕ
value_given given place = (get_or given place ([], [])).1

abbrev pub number_given : List Given → (place : ℕ) → ℕ
number_given given place = numeral_value (value_given given place)

-- the kinds of files
abbrev pub kinds_in : List NamedFile → List FileKind
kinds_in files = map (λ file. file.0) files

-- the kinds of the files of a problem
abbrev pub problem_kinds : List FileKind
problem_kinds = Bench ∷ Tech ∷ Placement ∷ []

-- the kinds of what a command goes by: a demonstration has texts in place of files
abbrev pub kinds_for : Form → List NamedFile → List FileKind
kinds_for Demo files = problem_kinds
kinds_for form files = kinds_in files

-- and what they hold
abbrev pub texts_for : Form → List Given → (contents : List (List ℕ)) → List (List ℕ)
texts_for Demo given contents = demo_texts (number_given given 0) (number_given given 1)
texts_for form given contents = contents

-- the contents of all its files are accepted, and tell this
pub record Tells (request : Request) (contents : List (List ℕ)) (told : Told) : Type 0 where
  pub all : length contents ≡ length request.files
  pub tell : Tell (kinds_for request.form request.files) nothing
      (texts_for request.form request.given contents) told

-- paths join more pairs of registers than a circuit may have; for a check there may be any number
abbrev pub JoinTooMany : Form → Told → Type 0
JoinTooMany Check told = ⊥
JoinTooMany form told =
    (circuit : Circuit) × TellsCircuit told circuit × JoinsMoreThan circuit 1048576

-- ---- texts

-- the text is one that a command of this form, with these options, prints for what it is told, with
-- its status
abbrev pub IsText : Form → List Given → Told → (status : ℕ) → List ℕ → Type 0
IsText Zero given told status text =
    (status ≡ 0) × IsTimedSo told (λ circuit tech. IsZeroText circuit tech text)
IsText Period given told status text =
    IsTimedSo told (λ circuit tech. IsPeriodText circuit tech status text)
IsText Schedule given told status text =
    IsTimedSo told (λ circuit tech. IsScheduleText circuit tech status text)
IsText Margin given told status text = (status ≡ 0)
    × IsTimedSo told (λ circuit tech. IsMarginText circuit tech (value_given given 2) text)
IsText Synth given (placed problem) status text = IsSynthText problem status text
IsText Demo given (placed problem) status text =
    IsDemoText (number_given given 0) problem status text
IsText Check given (reported problem report) status text =
    (status ≡ 0) × IsCheckText problem report text
IsText Embed given (joined problem topology) status text =
    IsEmbedText problem topology status text
IsText Moves given (moving problem moves) status text = IsMovesText problem moves status text
IsText Corners given (bare only techs) status text = (circuit : Circuit)
    × TellsCircuit (bare only techs) circuit
    × IsCornersText circuit techs status text
IsText form given told status text = ⊥

-- what is asked for is answered with this status and this text
pub record IsAnswer (request : Request) (contents : List (List ℕ)) (status : ℕ) (text : List ℕ)
    : Type 0 where
  pub told : Told
  pub tells : Tells request contents told
  pub few : JoinTooMany request.form told → ⊥
  pub says : IsText request.form request.given told status text

-- the status of a text that is whole on the output
abbrev pub is_ending : ℕ → Bool
is_ending status = (status == 0) || (status == 1)

-- the statuses for what is accepted
abbrev pub IsStatusOf : Form → ℕ → Type 0
IsStatusOf Zero status = status ≡ 0
IsStatusOf Check status = (status ≡ 0) ⊎ (status ≡ 7)
IsStatusOf Margin status = status ≡ 0
IsStatusOf form status = (status ≡ 0) ⊎ (status ≡ 1)

-- ---- no period

-- the command looks for a period, and none is admitted
abbrev pub AdmitsNone : Form → Told → Type 0
AdmitsNone Zero told = ⊥
AdmitsNone Check told = ⊥
AdmitsNone Margin told = ⊥
AdmitsNone Corners (bare only techs) = (circuit : Circuit)
    × TellsCircuit (bare only techs) circuit
    × HasNoCommonPeriod circuit techs
AdmitsNone Corners told = ⊥
AdmitsNone form told = IsTimedSo told HasNoPeriod

-- so it is with what a command is told
pub record FindsNoPeriod (request : Request) (contents : List (List ℕ)) : Type 0 where
  pub told : Told
  pub tells : Tells request contents told
  pub few : JoinTooMany request.form told → ⊥
  pub none : AdmitsNone request.form told

-- ---- refusals

-- a report that is checked is read, but a reason stands against it
abbrev pub IsUnshown : Form → Told → Failure → Type 0
IsUnshown Check (reported problem report) failure = (reason : Reason)
    × (failure ≡ reason_failure_of problem.circuit reason)
    × IsVerdict problem report (Not reason)
IsUnshown form told failure = ⊥

-- all files are accepted, and refused all the same: too many pairs are joined, or a report isn't
-- shown
abbrev pub RefusesTold : Form → Told → Failure → Type 0
RefusesTold form told failure =
    ((failure ≡ Pairs) × JoinTooMany form told) ⊎ IsUnshown form told failure

-- what is asked for is refused, on the contents of the files up to the one that is refused, or on
-- those of all
abbrev pub IsRefusal : Request → List (List ℕ) → Failure → Type 0
IsRefusal request contents failure =
    RefusesFirst (kinds_for request.form request.files) nothing
    (texts_for request.form request.given contents) failure
    ⊎ ((told : Told) × Tells request contents told × RefusesTold request.form told failure)

-- ---- what is accepted

-- the kinds of the files that have to be accepted: a report needn't
abbrev pub judged_kinds : Form → List NamedFile → List FileKind
judged_kinds Check files = take 3 (kinds_in files)
judged_kinds form files = kinds_for form files

-- none of them is refused, and they join no more pairs than a circuit may have
pub record IsAccepted (request : Request) (contents : List (List ℕ)) : Type 0 where
  pub known : length (judged_kinds request.form request.files)
      ≤ length (texts_for request.form request.given contents)
  pub fine : (failure : Failure)
      → RefusesFirst (judged_kinds request.form request.files) nothing
      (texts_for request.form request.given contents) failure → ⊥
  pub few : (told : Told) → Tells request contents told → JoinTooMany request.form told → ⊥
