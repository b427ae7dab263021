-- The files that a command reads, and what is known of their contents.
use Rattle.std.specs.Prelude.{◌≡◌, ◌≤◌, ℕ, suc, List, [], ◌∷◌, ◌++◌, length, Option, Some, None, IfSome}
use Rattle.failure_lines.specs.declared.file_kind.FileKind.{FileKind}
use Rattle.failure_lines.specs.declared.file_kind.FileKind.TheVariants.{Bench, Tech, Placement, Report, Topology, Corner}
use Rattle.failure_lines.specs.declared.file_kind.FileKind.TheVariants as kinds
use Rattle.command_line.specs.declared.command.Command.{Command}
use Rattle.command_line.specs.declared.command.Command.TheVariants.{Zero, Period, Schedule, Synth, Check, Demo, Margin, Embed, Moves, Corners}
use Rattle.command_line.specs.declared.table.Form.{Form}
use Rattle.command_line.specs.CommandTable.{command_form}
use Rattle.command_line.specs.Commands.{Given, IsCommand, options_of, tables_of}

-- a file that a command reads: its kind and its name
abbrev pub NamedFile : Type 0
NamedFile = FileKind × List ℕ

-- the files that tell a circuit and its delays
abbrev pub circuit_files : (bench tech : List ℕ) → List NamedFile
circuit_files bench tech = (Bench, bench) ∷ (Tech, tech) ∷ []

-- the files that tell a problem, with a placement after them
abbrev pub problem_files : (bench tech pl : List ℕ) → List NamedFile
problem_files bench tech pl = circuit_files bench tech ++ (Placement, pl) ∷ []

-- the delay tables of corners, which are numbered from one on
abbrev pub corner_files : (number : ℕ) → List (List ℕ) → List NamedFile
corner_files number [] = []
corner_files number (table ∷ tables) = (Corner number, table) ∷ corner_files (suc number) tables

-- the files that a command reads, in this order
abbrev pub files_of : Command → List NamedFile
files_of (Zero bench None) = (Bench, bench.now) ∷ []
files_of (Zero bench (Some tech)) = circuit_files bench.now tech.now
files_of (Period bench tech) = circuit_files bench.now tech.now
files_of (Schedule bench tech) = circuit_files bench.now tech.now
files_of (Synth bench tech pl) = problem_files bench.now tech.now pl.now
files_of (Check bench tech pl report) =
    problem_files bench.now tech.now pl.now ++ (Report, report.now) ∷ []
files_of (Demo registers seed) = []
files_of (Margin bench tech period) = circuit_files bench.now tech.now
files_of (Embed bench tech pl topology) =
    problem_files bench.now tech.now pl.now ++ (Topology, topology.now) ∷ []
files_of (Moves bench tech pl moves) =
    problem_files bench.now tech.now pl.now ++ (kinds.Moves, moves.now) ∷ []
files_of (Corners bench tables) =
    (Bench, bench.now) ∷ corner_files 1 (tables_of (Corners bench tables))

-- what a command asks for: its form, its options with their values, and its files
pub record Request : Type 0 where
  pub form : Form
  pub given : List Given
  pub files : List NamedFile

unfoldable pub request_of : Command → Request
request_of command = record {
  form = command_form command;
  given = options_of command;
  files = files_of command;
}

-- the words mean a command that asks for this
pub record Ask (words : List (List ℕ)) (request : Request) : Type 0 where
  pub command : Command
  pub means : IsCommand words command
  pub asks : request ≡ request_of command

-- no file has more bytes
abbrev pub IsShortFile : List ℕ → Type 0
IsShortFile bytes = length bytes ≤ 16777216

-- what the first of these files hold: where the device gives it, it gives these contents
abbrev pub AreContents : (List ℕ → Option (List ℕ)) → List NamedFile → List (List ℕ) → Type 0
AreContents holds files [] = Unit {0}
AreContents holds [] (bytes ∷ contents) = ⊥
AreContents holds (file ∷ files) (bytes ∷ contents) =
    IfSome (holds file.1) (λ denoted. denoted ≡ bytes) × AreContents holds files contents

-- the device says that the first of these files hold these contents
abbrev pub AreDenoted : (List ℕ → Option (List ℕ)) → List NamedFile → List (List ℕ) → Type 0
AreDenoted holds files [] = Unit {0}
AreDenoted holds [] (bytes ∷ contents) = ⊥
AreDenoted holds (file ∷ files) (bytes ∷ contents) =
    (holds file.1 ≡ Some bytes) × AreDenoted holds files contents
