-- What the program makes of the words after its name, the files that they name, and its output.
use Rattle.std.specs.Prelude.{◌≡◌, ◌≢◌, ◌<◌, ◌⊎◌, ℕ, true, List, ◌∷◌, ◌++◌, length, All, Option, Some}
use Rattle.cts_io.specs.Device.{Rose, appended, WritesPrefix}
use Rattle.command_line.specs.declared.command.Command.{Command}
use Rattle.command_line.specs.Commands.{IsCommand}
use Rattle.failure_lines.specs.declared.failure.Failure.{Failure}
use Rattle.failure_lines.specs.declared.failure.Failure.TheVariants.{Usage, ReadFault, WriteFault, NoMemory}
use Rattle.failure_lines.specs.declared.file_kind.FileKind.{FileKind}
use Rattle.failure_lines.specs.Failures.{status_of, failure_line, Reports}
use Rattle.cts_program.specs.Answers.{is_ending, kinds_in, IsAnswer, IsRefusal, IsAccepted, IsStatusOf, FindsNoPeriod}
use Rattle.cts_program.specs.Documents.{Tell}
use Rattle.cts_program.specs.Files.{NamedFile, Request, Ask, AreContents}
use Rattle.cts_program.specs.Told.{Told, nothing}

-- the words ask for nothing that the program does
abbrev pub IsNoCommand : List (List ℕ) → Type 0
IsNoCommand words = (command : Command) → IsCommand words command → ⊥

-- this text is the answer for what the files hold
pub record DenotesText (holds : List ℕ → Option (List ℕ)) (request : Request) (status : ℕ)
    (text : List ℕ) : Type 0 where
  pub contents : List (List ℕ)
  pub are : AreContents holds request.files contents
  pub answer : IsAnswer request contents status text

-- what the files hold makes it refuse with this failure
pub record RefusesRequest (holds : List ℕ → Option (List ℕ)) (request : Request)
    (failure : Failure) : Type 0 where
  pub contents : List (List ℕ)
  pub are : AreContents holds request.files contents
  pub refusal : IsRefusal request contents failure

-- among these files is one of this kind whose count rose; the files before it are accepted
pub record CannotRead (holds : List ℕ → Option (List ℕ)) (reads reads_now : List ℕ → ℕ)
    (files : List NamedFile) (kind : FileKind) : Type 0 where
  pub prefix : List NamedFile
  pub file : List ℕ
  pub suffix : List NamedFile
  pub files_are : files ≡ prefix ++ (kind, file) ∷ suffix
  pub rose : Rose (reads file) (reads_now file)
  pub contents : List (List ℕ)
  pub are : AreContents holds prefix contents
  pub told : Told
  pub accepted : Tell (kinds_in prefix) nothing contents told

-- why there is no text
pub data Stops (holds : List ℕ → Option (List ℕ)) (reads reads_now : List ℕ → ℕ)
    (request : Request) (failure : Failure) : Type 0 where
  refused : RefusesRequest holds request failure → Stops holds reads reads_now request failure
  unread : (kind : FileKind) → failure ≡ ReadFault kind
      → CannotRead holds reads reads_now request.files kind
      → Stops holds reads reads_now request failure
  wants_memory : failure ≡ NoMemory → Stops holds reads reads_now request failure

-- the text of what the words ask for stands whole on the output
pub record Ends (words : List (List ℕ)) (holds : List ℕ → Option (List ℕ)) (status : ℕ)
    (before now : Option (List ℕ)) : Type 0 where
  pub request : Request
  pub ask : Ask words request
  pub text : List ℕ
  pub denotes : DenotesText holds request status text
  pub whole : now ≡ appended before text

-- the same with a prefix of the text that isn't the whole
pub record EndsInPart (words : List (List ℕ)) (holds : List ℕ → Option (List ℕ))
    (before now : Option (List ℕ)) : Type 0 where
  pub request : Request
  pub ask : Ask words request
  pub status : ℕ
  pub text : List ℕ
  pub denotes : DenotesText holds request status text
  pub prefix : WritesPrefix before text now

-- why a command line isn't done: its words, the files that they name, or the output
pub data Fails (words : List (List ℕ)) (holds : List ℕ → Option (List ℕ))
    (reads reads_now : List ℕ → ℕ) (before now : Option (List ℕ)) (writes writes_now : ℕ)
    (failure : Failure) : Type 0 where
  usage : failure ≡ Usage → IsNoCommand words
      → Fails words holds reads reads_now before now writes writes_now failure
  stops : (request : Request) → Ask words request → Stops holds reads reads_now request failure
      → Fails words holds reads reads_now before now writes writes_now failure
  unwritten : failure ≡ WriteFault → EndsInPart words holds before now → Rose writes writes_now
      → Fails words holds reads reads_now before now writes writes_now failure

-- no count of these files rose
abbrev pub NoneRose : (reads reads_now : List ℕ → ℕ) → List NamedFile → Type 0
NoneRose reads reads_now files = All (λ file. Rose (reads file.1) (reads_now file.1) → ⊥) files

-- how a command line ends where the files that it names hold these contents
pub record EndsFor (request : Request) (contents : List (List ℕ)) (reads reads_now : List ℕ → ℕ)
    (before now : Option (List ℕ)) (writes writes_now status : ℕ) : Type 0 where
  -- with the status of the answer whose text stands whole on the output
  pub only : (other : ℕ) (text start : List ℕ) → IsAnswer request contents other text
      → before ≡ Some start → now ≡ appended before text → status ≡ other
  -- with 1 only where what is accepted admits no period at any scale, and never from `zero`,
  -- `check` or `margin`; such input gives no 0
  pub never : length contents ≡ length request.files → status ≡ 1
      → FindsNoPeriod request contents
  pub found : FindsNoPeriod request contents → status ≢ 0
  -- with the status of their refusal, unless a file can't be read or memory runs out
  pub refused : (failure : Failure) → IsRefusal request contents failure
      → (status ≡ status_of failure) ⊎ ((status ≡ 4) ⊎ (status ≡ 6))
  -- where they are accepted and no device fails, with 0 or 1, from `zero` and `margin` with 0 and
  -- from `check` with 0 or 7, whatever its report holds, unless memory runs out
  pub complete : IsAccepted request contents → NoneRose reads reads_now request.files
      → (Rose writes writes_now → ⊥) → IsStatusOf request.form status ⊎ (status ≡ 6)

-- a count that is greater has a status of its own
pub record ShowsFaults (reads reads_now : List ℕ → ℕ) (writes writes_now status : ℕ)
    : Type 0 where
  pub read : (file : List ℕ) → reads file < reads_now file → status ≡ 4
  pub written : writes < writes_now → status ≡ 5

-- files hold what they held, and none is touched for words that are no command; the output keeps
-- what it had, but for a text that stands there, whole or in part
pub record Keeps {Device : Type 0} (device device_now : Device)
    (holds holds_now : List ℕ → Option (List ℕ)) (before now : Option (List ℕ)) (status : ℕ)
    : Type 0 where
  pub untouched : status ≡ 2 → device_now ≡ device
  pub files : (file : List ℕ) → holds_now file ≡ holds file
  pub output : is_ending status ≢ true → status ≢ 5 → now ≡ before

-- the failure with this status has its cause, and its line stands on the error output
pub record Reported (words : List (List ℕ)) (holds : List ℕ → Option (List ℕ))
    (reads reads_now : List ℕ → ℕ) (before now : Option (List ℕ)) (writes writes_now : ℕ)
    (errors errors_now : Option (List ℕ)) (faults faults_now status : ℕ) : Type 0 where
  pub failure : Failure
  pub status_is : status ≡ status_of failure
  pub cause : Fails words holds reads reads_now before now writes writes_now failure
  pub line : Reports (failure_line failure) errors faults errors_now faults_now
