-- The table of commands: the name and the options of each, as they stand in the usage line.
use Rattle.std.specs.Prelude.{ℕ, nat_le, Bool, true, false, List, [], ◌∷◌, ◌++◌, Option, drop, find, codes, if◌then◌else◌}
use Rattle.std.specs.List.{flat_map}
use Rattle.std.specs.Str.{bytes_eq}
use Rattle.command_line.specs.declared.command.Command.{Command}
use Rattle.command_line.specs.declared.command.Command.TheVariants as command
use Rattle.command_line.specs.declared.table.Form.{Form}
use Rattle.command_line.specs.declared.table.Form.TheVariants.{Zero, Period, Schedule, Synth, Check, Demo, Margin, Embed, Moves, Corners}
use Rattle.command_line.specs.declared.table.Choice.{Choice}
use Rattle.command_line.specs.declared.table.Choice.TheVariants as option
use Rattle.command_line.specs.declared.table.ValueKind.{ValueKind}
use Rattle.command_line.specs.declared.table.ValueKind.TheVariants as kind

-- a word of a command line
abbrev pub Word : Type 0
Word = List ℕ

-- all commands
abbrev pub forms : List Form
forms = Zero ∷ Period ∷ Schedule ∷ Synth ∷ Check ∷ Demo ∷ Margin ∷ Embed ∷ Moves ∷ Corners ∷ []

-- the name of a command, and its options
abbrev pub row_of : Form → Word × List Choice
row_of Zero = (codes "zero", option.Bench ∷ option.TechIfWanted ∷ [])
row_of Period = (codes "period", option.Bench ∷ option.Tech ∷ [])
row_of Schedule = (codes "schedule", option.Bench ∷ option.Tech ∷ [])
row_of Synth = (codes "synth", option.Bench ∷ option.Tech ∷ option.Placement ∷ [])
row_of Check =
    (codes "check", option.Bench ∷ option.Tech ∷ option.Placement ∷ option.Report ∷ [])
row_of Demo = (codes "demo", option.Registers ∷ option.Seed ∷ [])
row_of Margin = (codes "margin", option.Bench ∷ option.Tech ∷ option.Period ∷ [])
row_of Embed =
    (codes "embed", option.Bench ∷ option.Tech ∷ option.Placement ∷ option.Topology ∷ [])
row_of Moves =
    (codes "moves", option.Bench ∷ option.Tech ∷ option.Placement ∷ option.MovesFile ∷ [])
row_of Corners = (codes "corners", option.Bench ∷ [])

-- how many delay tables stand as plain words after the options of a command, at least and at most
abbrev pub table_bounds : Form → ℕ × ℕ
table_bounds Corners = (1, 16)
table_bounds form = (0, 0)

-- the word of an option
abbrev pub option_word : Choice → Word
option_word option.Bench = codes "--bench"
option_word option.Tech = codes "--tech"
option_word option.TechIfWanted = codes "--tech"
option_word option.Placement = codes "--pl"
option_word option.Report = codes "--report"
option_word option.Topology = codes "--topology"
option_word option.MovesFile = codes "--moves"
option_word option.Registers = codes "--registers"
option_word option.Seed = codes "--seed"
option_word option.Period = codes "--period"

-- what the value of an option is
abbrev pub value_kind : Choice → ValueKind
value_kind option.Registers = kind.Registers
value_kind option.Seed = kind.Seed
value_kind option.Period = kind.Period
value_kind _ = kind.File

-- whether an option has to stand
abbrev pub is_required : Choice → Bool
is_required option.TechIfWanted = false
is_required _ = true

-- the command without the values of its options
abbrev pub command_form : Command → Form
command_form (command.Zero bench tech) = Zero
command_form (command.Period bench tech) = Period
command_form (command.Schedule bench tech) = Schedule
command_form (command.Synth bench tech pl) = Synth
command_form (command.Check bench tech pl report) = Check
command_form (command.Demo registers seed) = Demo
command_form (command.Margin bench tech period) = Margin
command_form (command.Embed bench tech pl topology) = Embed
command_form (command.Moves bench tech pl moves) = Moves
command_form (command.Corners bench tables) = Corners

-- the name of a command
abbrev pub form_name : Form → Word
form_name form = (row_of form).0

-- the command with this name, if there is one
abbrev pub form_named : Word → Option Form
form_named name = find (λ form. bytes_eq (form_name form) name) forms

-- the options of a command
abbrev pub choices_of : Form → List Choice
choices_of form = (row_of form).1

-- the letter for a value in the usage line
abbrev pub letter_of : ValueKind → Word
letter_of kind.File = codes " F"
letter_of kind.Registers = codes " N"
letter_of kind.Seed = codes " S"
letter_of kind.Period = codes " P"

-- an option with its value in the usage line, in brackets where it may be left out
abbrev pub option_usage : Choice → Word
option_usage choice =
    let words = option_word choice ++ letter_of (value_kind choice) in
    if is_required choice then codes " " ++ words else codes " [" ++ words ++ codes "]"

-- whether a command takes delay tables as plain words
abbrev pub takes_tables : Form → Bool
takes_tables form = nat_le 1 (table_bounds form).1

-- the delay tables in the usage line
abbrev pub tables_usage : Form → Word
tables_usage form = if takes_tables form then codes " T1 .. Tk" else []

-- the words of a command in the usage line
abbrev pub form_usage : Form → Word
form_usage form = codes " | cts " ++ form_name form ++ flat_map option_usage (choices_of form)
    ++ tables_usage form

-- the usage line: the words of each command, with a bar between two
abbrev pub usage : Word
usage = codes "usage:" ++ drop 2 (flat_map form_usage forms)
