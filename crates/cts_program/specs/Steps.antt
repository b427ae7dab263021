-- What one step of a command finds: a file that was read, an answer, or why it stops there.
use Rattle.std.specs.Prelude.{◌≡◌, ◌≢◌, ◌↔◌, ◌⊎◌, ℕ, IsTrue, List, [], Option, IfSome, Result, IfOk, IfErr, IsErrOf}
use Rattle.cts_io.specs.Device.{Rose}
use Rattle.cts_model.specs.declared.circuit.Circuit.{Circuit}
use Rattle.cts_model.specs.declared.tech.Tech.{Tech}
use Rattle.cts_model.specs.Vocabulary.{has_host, HasNoHost, IsLoop, JoinsMoreThan, GivesUsedKinds}
use Rattle.answer_texts.specs.declared.answer.Answer.{Answer}
use Rattle.answer_texts.specs.Endings.{ending_status}
use Rattle.failure_lines.specs.declared.failure.Failure.{Failure}
use Rattle.failure_lines.specs.declared.failure.Failure.TheVariants as failures
use Rattle.failure_lines.specs.declared.file_kind.FileKind.{FileKind}
use Rattle.cts_program.specs.Answers.{kinds_in}
use Rattle.cts_program.specs.Documents.{IsAcceptedAs, IsRefusedAs, Tell, RefusesFirst}
use Rattle.cts_program.specs.Files.{NamedFile, Request, AreContents}
use Rattle.cts_program.specs.Run.{DenotesText, CannotRead, Stops}
use Rattle.cts_program.specs.Told.{Told, nothing, bare, TellsCircuit}

-- so it fails, or memory ran out
abbrev pub OrMemory : (Fails : Failure → Type 0) → Failure → Type 0
OrMemory Fails failure = Fails failure ⊎ (failure ≡ failures.NoMemory)

-- a step that reads: files hold what they held, and no count rises but where it says so; it gives
-- this, or fails so
pub record IsStep {Value : Type 0} (holds holds_now : List ℕ → Option (List ℕ))
    (reads reads_now : List ℕ → ℕ) (Gives : Value → Type 0) (Fails : Failure → Type 0)
    (result : Result Value Failure) : Type 0 where
  pub files : holds_now ≡ holds
  pub counts : ((kind : FileKind) → IsErrOf result (failures.ReadFault kind) → ⊥)
      → reads_now ≡ reads
  pub gives : IfOk result Gives
  pub fails : IfErr result Fails

-- a step that answers what is asked for, or fails for a cause
abbrev pub IsServed : (holds holds_now : List ℕ → Option (List ℕ)) → (reads reads_now : List ℕ → ℕ)
    → Request → Result Answer Failure → Type 0
IsServed holds holds_now reads reads_now request result = IsStep holds holds_now reads reads_now
    (λ answer. DenotesText holds request (ending_status answer.ending) answer.text.items)
    (Stops holds reads reads_now request) result

-- ---- one file

-- these bytes are what a file holds, where the device gives it
abbrev pub IsReportedAs : Option (List ℕ) → List ℕ → Type 0
IsReportedAs held bytes = IfSome held (λ denoted. denoted ≡ bytes)

-- a file of this kind was read, and with what was told before it tells this
pub record IsRead (held : Option (List ℕ)) (kind : FileKind) (told next : Told) : Type 0 where
  pub bytes : List ℕ
  pub denoted : IsReportedAs held bytes
  pub accepted : IsAcceptedAs kind told bytes next

-- it is refused
pub record IsNotTaken (held : Option (List ℕ)) (kind : FileKind) (told : Told) (failure : Failure)
    : Type 0 where
  pub bytes : List ℕ
  pub denoted : IsReportedAs held bytes
  pub refused : IsRefusedAs kind told bytes failure

-- it is refused or its count rose, or memory ran out
abbrev pub IsUnread : Option (List ℕ) → (before now : ℕ) → FileKind → Told → Failure → Type 0
IsUnread held before now kind told failure = OrMemory (λ failure.
    IsNotTaken held kind told failure ⊎ ((failure ≡ failures.ReadFault kind) × Rose before now))
    failure

-- ---- the files so far

-- these files were read, and tell this
pub record AreRead (holds : List ℕ → Option (List ℕ)) (files : List NamedFile) (told : Told)
    : Type 0 where
  pub contents : List (List ℕ)
  pub are : AreContents holds files contents
  pub tell : Tell (kinds_in files) nothing contents told

-- the first of them that isn't accepted is refused so
pub record AreRefused (holds : List ℕ → Option (List ℕ)) (files : List NamedFile)
    (failure : Failure) : Type 0 where
  pub contents : List (List ℕ)
  pub are : AreContents holds files contents
  pub refused : RefusesFirst (kinds_in files) nothing contents failure

-- so it is, or the count of one rose, or memory ran out
abbrev pub AreUnread : (holds : List ℕ → Option (List ℕ)) → (reads reads_now : List ℕ → ℕ)
    → List NamedFile → Failure → Type 0
AreUnread holds reads reads_now files failure = OrMemory (λ failure. AreRefused holds files failure
    ⊎ ((kind : FileKind) × (failure ≡ failures.ReadFault kind)
    × CannotRead holds reads reads_now files kind)) failure

-- these files of several corners tell this circuit, with the host where there is one, and these
-- delays
pub record TellCorners (holds : List ℕ → Option (List ℕ)) (files : List NamedFile)
    (circuit : Circuit) (techs : List Tech) : Type 0 where
  pub only : Circuit
  pub read : AreRead holds files (bare only techs)
  pub tells : TellsCircuit (bare only techs) circuit

-- ---- what they tell

-- a circuit of a netlist: it has no host, and no gates form a ring
pub record IsBare (circuit : Circuit) : Type 0 where
  pub hostless : HasNoHost circuit
  pub acyclic : (loop : List ℕ) → IsLoop circuit.signals loop → ⊥

-- the delays serve the circuit, of which no gates form a ring
pub record AreServed (circuit : Circuit) (tech : Tech) : Type 0 where
  pub acyclic : (loop : List ℕ) → IsLoop circuit.signals loop → ⊥
  pub kinds : GivesUsedKinds circuit tech
  pub host : IsTrue (has_host circuit.signals) ↔ (tech.host ≢ [])

-- more pairs are joined than a circuit may have, or memory ran out
abbrev pub FailsCircuit : Circuit → Failure → Type 0
FailsCircuit circuit failures.Pairs = JoinsMoreThan circuit 1048576
FailsCircuit circuit failures.NoMemory = Unit {0}
FailsCircuit circuit _ = ⊥
