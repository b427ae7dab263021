-- Why a command isn't done: the exit status and the line on the error output of each failure.
use Rattle.std.specs.Prelude.{◌≡◌, ℕ, List, [], ◌∷◌, ◌++◌, ◌⊎◌, Option, if◌then◌else◌, ◌&&◌, nat_le, codes, decimal, get_or}
use Rattle.std.specs.List.{flat_map}
use Rattle.cts_io.specs.Device.{Rose, appended, WritesPrefix}
use Rattle.bench_reader.specs.declared.fault.Which.{Which}
use Rattle.bench_reader.specs.declared.fault.Which.TheVariants.{Name, Signals, Registers, Inputs}
use Rattle.cts_base.specs.declared.number.NumberFault.{NumberFault}
use Rattle.cts_base.specs.declared.number.NumberFault.TheVariants.{NotNumber, TooFine, TooLarge}
use Rattle.cts_model.specs.table.TableKeys.{word_of}
use Rattle.command_line.specs.CommandTable.{usage}
use Rattle.failure_lines.specs.declared.failure.Failure.{Failure}
use Rattle.failure_lines.specs.declared.failure.Failure.TheVariants.{Usage, TooLong, Refused, CornerHost, Pairs, Unshown, ReadFault, WriteFault, NoMemory}
use Rattle.failure_lines.specs.declared.file_kind.FileKind.{FileKind}
use Rattle.failure_lines.specs.declared.file_kind.FileKind.TheVariants as kinds
use Rattle.failure_lines.specs.declared.file_kind.FileKind.TheVariants.{Report, Corner}
use Rattle.failure_lines.specs.declared.words.Words.{Words}
use Rattle.failure_lines.specs.declared.words.Words.TheVariants.{Nothing, Line, Limit, Number, Key, Gate, Register, Loop, Place}

-- the program's exit status
abbrev pub status_of : Failure → ℕ
status_of Usage = 2
status_of (TooLong Report) = 7
status_of (TooLong kind) = 3
status_of (Refused Report number words) = 7
status_of (Refused kind number words) = 3
status_of (CornerHost number) = 3
status_of Pairs = 3
status_of (Unshown number words) = 7
status_of (ReadFault kind) = 4
status_of WriteFault = 5
status_of NoMemory = 6

-- the word for a limit, after a space
abbrev pub limit_word : Which → List ℕ
limit_word Name = codes " name"
limit_word Signals = codes " signals"
limit_word Registers = codes " registers"
limit_word Inputs = codes " inputs"

-- the word for what is wrong with a number, after a space
abbrev pub number_word : NumberFault → List ℕ
number_word NotNumber = codes " 1"
number_word TooFine = codes " 2"
number_word TooLarge = codes " 3"

-- a byte as it is shown: one that isn't printable is a question mark
abbrev pub printable_byte : ℕ → ℕ
printable_byte byte = if nat_le 33 byte && nat_le byte 126 then byte else 63

-- bytes as they are shown
abbrev pub printable_bytes : List ℕ → List ℕ
printable_bytes bytes = flat_map (λ byte. printable_byte byte ∷ []) bytes

-- the words of a refusal, with the space before them
abbrev pub words_text : Words → List ℕ
words_text Nothing = []
words_text (Line line) = codes " line " ++ decimal line
words_text (Limit line which) = codes " line " ++ decimal line ++ limit_word which
words_text (Number line fault) = codes " line " ++ decimal line ++ number_word fault
words_text (Key key) = codes " " ++ printable_bytes key
words_text (Gate gate) = codes " " ++ word_of gate
words_text (Register name) = codes " " ++ name
words_text (Loop names) = flat_map (λ name. 32 ∷ name) names
words_text (Place place) = codes " " ++ decimal place

-- what the reasons say of a report, from that of number 1, each after a space
abbrev pub reason_texts : List (List ℕ)
reason_texts =
    codes " below floor" ∷ codes " cycle broken" ∷ codes " not of circuit" ∷ codes " cycle value"
    ∷ codes " schedule misses" ∷ codes " tree shape" ∷ codes " too short" ∷ codes " wire sum"
    ∷ codes " skew differs" ∷ codes " unshown" ∷ codes " total" ∷ codes " slack differs"
    ∷ codes " path broken" ∷ codes " not least" ∷ []

abbrev pub reason_text : (number : ℕ) → List ℕ
reason_text number = get_or ([] ∷ reason_texts) number []

-- the word for a kind of file
abbrev pub kind_word : FileKind → List ℕ
kind_word kinds.Bench = codes "bench"
kind_word kinds.Tech = codes "tech"
kind_word kinds.Placement = codes "pl"
kind_word kinds.Report = codes "report"
kind_word kinds.Topology = codes "topology"
kind_word kinds.Moves = codes "moves"
kind_word (Corner number) = codes "corner"

-- what begins the line for a file that is refused, and for a report that isn't shown
abbrev pub refused_text : FileKind → List ℕ
refused_text Report = codes "not shown report"
refused_text (Corner number) = codes "refused corner " ++ decimal number ++ codes " tech"
refused_text kind = codes "refused " ++ kind_word kind

-- the line that says why, up to its end
abbrev pub failure_text : Failure → List ℕ
failure_text Usage = usage
failure_text (TooLong kind) = refused_text kind ++ codes " long"
failure_text (Refused kind number words) =
    refused_text kind ++ (codes " " ++ decimal number ++ words_text words)
failure_text (CornerHost number) = codes "refused corner " ++ decimal number ++ codes " host"
failure_text Pairs = codes "refused pairs"
failure_text (Unshown number words) =
    codes "not shown " ++ decimal number ++ reason_text number ++ words_text words
failure_text (ReadFault (Corner number)) = codes "read fault corner " ++ decimal number
failure_text (ReadFault kind) = codes "read fault " ++ kind_word kind
failure_text WriteFault = codes "write fault"
failure_text NoMemory = codes "no memory"

-- the line, with the line feed that ends it
abbrev pub failure_line : Failure → List ℕ
failure_line failure = failure_text failure ++ 10 ∷ []

-- the line stands after what was written before, or a prefix of it where the sink's count of faults
-- rose
abbrev pub Reports : List ℕ → Option (List ℕ) → ℕ → Option (List ℕ) → ℕ → Type 0
Reports line before faults_before now faults_now = (now ≡ appended before line)
    ⊎ (WritesPrefix before line now × Rose faults_before faults_now)
