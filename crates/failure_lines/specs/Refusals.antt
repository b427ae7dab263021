-- The table of refusals: for each fault the kind of the file, the number of the fault and its
-- words. Want of memory is no refusal.
use Rattle.bench_reader.specs.declared.fault.BenchFault.{BenchFault}
use Rattle.bench_reader.specs.declared.fault.BenchFault.TheVariants as bench
use Rattle.cert_check.specs.declared.verdict.Reason.{Reason}
use Rattle.cert_check.specs.declared.verdict.Subject.{Subject}
use Rattle.cert_check.specs.declared.verdict.Subject.TheVariants as subject
use Rattle.cert_check.specs.Reasons.{reason_numbers}
use Rattle.command_line.specs.declared.command.WordsFault.{WordsFault}
use Rattle.command_line.specs.declared.command.WordsFault.TheVariants as words
use Rattle.cts_model.specs.declared.circuit.Circuit.{Circuit}
use Rattle.cts_model.specs.Vocabulary.{register_name}
use Rattle.delay_tables.specs.declared.fault.TechFault.{TechFault}
use Rattle.delay_tables.specs.declared.fault.TechFault.TheVariants as tech
use Rattle.move_session.specs.declared.fault.MovesFault.{MovesFault}
use Rattle.move_session.specs.declared.fault.MovesFault.TheVariants as moves
use Rattle.path_delays.specs.declared.fault.PairFault.{PairFault}
use Rattle.path_delays.specs.declared.fault.PairFault.TheVariants as pairs
use Rattle.place_reader.specs.declared.fault.PlaceFault.{PlaceFault}
use Rattle.place_reader.specs.declared.fault.PlaceFault.TheVariants as place
use Rattle.report_text.specs.FaultNumbers.{fault_numbers}
use Rattle.report_text.specs.declared.fault.ReportFault.{ReportFault}
use Rattle.report_text.specs.declared.fault.ReportFault.TheVariants as report
use Rattle.topology_file.specs.declared.fault.TopologyFault.{TopologyFault}
use Rattle.topology_file.specs.declared.fault.TopologyFault.TheVariants as topology
use Rattle.failure_lines.specs.declared.failure.Failure.{Failure}
use Rattle.failure_lines.specs.declared.failure.Failure.TheVariants.{Usage, Refused, Pairs, Unshown, NoMemory}
use Rattle.failure_lines.specs.declared.file_kind.FileKind.{FileKind}
use Rattle.failure_lines.specs.declared.file_kind.FileKind.TheVariants.{Bench, Placement, Report, Topology, Moves}
use Rattle.failure_lines.specs.declared.words.Words.{Words}
use Rattle.failure_lines.specs.declared.words.Words.TheVariants.{Nothing, Line, Limit, Number, Key, Gate, Register, Loop, Place}

-- the words of a call
abbrev pub words_failure_of : WordsFault → Failure
words_failure_of words.Usage = Usage
words_failure_of words.NoMemory = NoMemory

-- a netlist
abbrev pub bench_failure_of : BenchFault → Failure
bench_failure_of (bench.BadLine line) = Refused Bench 1 (Line line)
bench_failure_of (bench.UnknownKind line) = Refused Bench 2 (Line line)
bench_failure_of (bench.WrongInputs line) = Refused Bench 3 (Line line)
bench_failure_of (bench.SignalTwice line) = Refused Bench 4 (Line line)
bench_failure_of (bench.TooLarge line which) = Refused Bench 5 (Limit line which)
bench_failure_of (bench.Undefined line) = Refused Bench 6 (Line line)
bench_failure_of (bench.CombLoop names) = Refused Bench 7 (Loop names)
bench_failure_of bench.NoRegisters = Refused Bench 8 Nothing
bench_failure_of bench.NoMemory = NoMemory

-- a delay table, be it of a corner or the only one
abbrev pub tech_failure_of : FileKind → TechFault → Failure
tech_failure_of kind tech.NotToml = Refused kind 1 Nothing
tech_failure_of kind (tech.Missing key) = Refused kind 2 (Key key)
tech_failure_of kind (tech.WrongType key) = Refused kind 3 (Key key)
tech_failure_of kind (tech.OutOfRange key) = Refused kind 4 (Key key)
tech_failure_of kind (tech.LeastAboveGreatest key) = Refused kind 5 (Key key)
tech_failure_of kind (tech.MissingKind gate) = Refused kind 6 (Gate gate)
tech_failure_of kind (tech.UnknownKey key) = Refused kind 7 (Key key)
tech_failure_of kind tech.NoMemory = NoMemory

-- a placement of a circuit
abbrev pub place_failure_of : Circuit → PlaceFault → Failure
place_failure_of circuit (place.BadLine line) = Refused Placement 1 (Line line)
place_failure_of circuit (place.BadNumber line fault) = Refused Placement 2 (Number line fault)
place_failure_of circuit (place.PlaceTwice line) = Refused Placement 3 (Line line)
place_failure_of circuit (place.NoPlace register) =
    Refused Placement 4 (Register (register_name circuit register))
place_failure_of circuit place.NoSource = Refused Placement 5 Nothing
place_failure_of circuit place.NoMemory = NoMemory

-- a topology
abbrev pub topology_failure_of : TopologyFault → Failure
topology_failure_of (topology.BadLine line) = Refused Topology 1 (Line line)
topology_failure_of (topology.NotOpen line) = Refused Topology 2 (Line line)
topology_failure_of (topology.Missing line) = Refused Topology 3 (Line line)
topology_failure_of (topology.Extra line) = Refused Topology 4 (Line line)
topology_failure_of topology.NoMemory = NoMemory

-- moves
abbrev pub moves_failure_of : MovesFault → Failure
moves_failure_of (moves.BadLine line) = Refused Moves 1 (Line line)
moves_failure_of (moves.UnknownRegister line) = Refused Moves 2 (Line line)
moves_failure_of (moves.BadNumber line fault) = Refused Moves 3 (Number line fault)
moves_failure_of (moves.TooMany line) = Refused Moves 4 (Line line)
moves_failure_of moves.NoMemory = NoMemory

-- a text that is no report
abbrev pub report_failure_of : ReportFault → Failure
report_failure_of report.NoMemory = NoMemory
report_failure_of fault = Refused Report (fault_numbers fault).0 (Line (fault_numbers fault).1)

-- what a reason is about; a register by its name
abbrev pub subject_words : Circuit → Subject → Words
subject_words circuit subject.Whole = Nothing
subject_words circuit (subject.Place place) = Place place
subject_words circuit (subject.Register register) = Register (register_name circuit register)

-- a report that doesn't show what it says
abbrev pub reason_failure_of : Circuit → Reason → Failure
reason_failure_of circuit reason =
    Unshown (reason_numbers reason).0 (subject_words circuit (reason_numbers reason).1)

-- a circuit that has no outcome
abbrev pub pair_failure_of : PairFault → Failure
pair_failure_of pairs.TooManyPairs = Pairs
pair_failure_of pairs.NoMemory = NoMemory
