-- What a file tells after those before it, or why it is refused, and so for the files of a command:
-- each is judged as soon as it is read.
use Rattle.std.specs.Prelude.{◌≡◌, ◌≢◌, ◌==◌, ◌⊎◌, ℕ, List, [], ◌∷◌, ◌++◌, length, Some, Ok, Err}
use Rattle.cts_model.specs.declared.circuit.Circuit.{Circuit}
use Rattle.cts_model.specs.declared.problem.Problem.{Problem}
use Rattle.cts_model.specs.declared.tech.Tech.{Tech}
use Rattle.cts_model.specs.Vocabulary.{Spells}
use Rattle.cts_model.specs.declared.report.Report as reports
use Rattle.cts_model.specs.declared.tree.Topology as trees
use Rattle.bench_reader.specs.declared.fault.BenchFault.{BenchFault}
use Rattle.bench_reader.specs.declared.fault.BenchFault.TheVariants as bench
use Rattle.bench_reader.specs.Netlists.{AcceptsNetlist, RefusesNetlist}
use Rattle.delay_tables.specs.declared.fault.TechFault.{TechFault}
use Rattle.place_reader.specs.declared.fault.PlaceFault.{PlaceFault}
use Rattle.place_reader.specs.declared.fault.PlaceFault.TheVariants as place
use Rattle.place_reader.specs.Placements.{AcceptsPlacement, RefusesPlacement}
use Rattle.report_text.specs.declared.fault.ReportFault.{ReportFault}
use Rattle.report_text.specs.declared.fault.ReportFault.TheVariants as report
use Rattle.report_text.specs.ReportFaults.{HasFault}
use Rattle.topology_file.specs.declared.fault.TopologyFault.{TopologyFault}
use Rattle.topology_file.specs.declared.fault.TopologyFault.TheVariants as topology
use Rattle.topology_file.specs.TopologyTexts.{topology_in}
use Rattle.move_session.specs.declared.fault.MovesFault.{MovesFault}
use Rattle.move_session.specs.declared.fault.MovesFault.TheVariants as moves
use Rattle.move_session.specs.declared.moves.Move.{Move}
use Rattle.move_session.specs.Moves.{moves_in}
use Rattle.cts_engine.specs.Accepted.{IsHostedBy, TellsDelays, HasFaultFor}
use Rattle.failure_lines.specs.declared.failure.Failure.{Failure}
use Rattle.failure_lines.specs.declared.failure.Failure.TheVariants as failures
use Rattle.failure_lines.specs.declared.file_kind.FileKind.{FileKind}
use Rattle.failure_lines.specs.declared.file_kind.FileKind.TheVariants as kinds
use Rattle.failure_lines.specs.Refusals.{bench_failure_of, tech_failure_of, place_failure_of, topology_failure_of, moves_failure_of, report_failure_of}
use Rattle.cts_program.specs.Files.{IsShortFile}
use Rattle.cts_program.specs.Told.{Told, nothing, bare, timed, placed, reported, joined, moving}

-- one of the first table and this one gives the host a place, and the other doesn't
abbrev pub DiffersFromFirst : List Tech → Tech → Type 0
DiffersFromFirst [] tech = ⊥
DiffersFromFirst (first ∷ more) tech = (length first.host == 0) ≢ (length tech.host == 0)

-- ---- one file

-- after what is told, a file of this kind with these bytes tells this
abbrev pub Means : FileKind → Told → List ℕ → (next : Told) → Type 0
Means kinds.Bench nothing bytes next =
    (circuit : Circuit) × (next ≡ bare circuit []) × AcceptsNetlist bytes circuit
Means kinds.Tech (bare only []) bytes next =
    (circuit : Circuit) × (tech : Tech) × (next ≡ timed circuit tech)
    × TellsDelays only.signals bytes tech × IsHostedBy tech only circuit
Means kinds.Placement (timed circuit tech) bytes next =
    (problem : Problem) × (next ≡ placed problem)
    × (problem.circuit ≡ circuit) × (problem.tech ≡ tech)
    × AcceptsPlacement bytes circuit tech.source tech.host problem.places
Means kinds.Report (placed problem) bytes next =
    (report : reports.Report) × (next ≡ reported problem report)
    × Spells problem.circuit problem.tech bytes report
Means kinds.Topology (placed problem) bytes next =
    (topology : trees.Topology) × (next ≡ joined problem topology)
    × (topology_in bytes (length problem.circuit.registers) ≡ Ok topology)
Means kinds.Moves (placed problem) bytes next =
    (moves : List Move) × (next ≡ moving problem moves)
    × (moves_in bytes problem.circuit ≡ Ok moves)
Means (kinds.Corner number) (bare only techs) bytes next =
    (tech : Tech) × (next ≡ bare only (techs ++ tech ∷ []))
    × TellsDelays only.signals bytes tech × (DiffersFromFirst techs tech → ⊥)
Means kind told bytes next = ⊥

-- or it is refused with this failure; the table of a corner is named by its number
abbrev pub Refuses : FileKind → Told → List ℕ → Failure → Type 0
Refuses kinds.Bench nothing bytes failure =
    (fault : BenchFault) × (failure ≡ bench_failure_of fault) × (fault ≢ bench.NoMemory)
    × RefusesNetlist bytes fault
Refuses kinds.Tech (bare only []) bytes failure =
    (fault : TechFault) × (failure ≡ tech_failure_of kinds.Tech fault)
    × HasFaultFor only.signals bytes fault
Refuses kinds.Placement (timed circuit tech) bytes failure =
    (fault : PlaceFault) × (failure ≡ place_failure_of circuit fault) × (fault ≢ place.NoMemory)
    × RefusesPlacement bytes circuit tech.source tech.host fault
Refuses kinds.Report (placed problem) bytes failure =
    (fault : ReportFault) × (failure ≡ report_failure_of fault) × (fault ≢ report.NoMemory)
    × HasFault problem.circuit problem.tech bytes (Some fault)
Refuses kinds.Topology (placed problem) bytes failure =
    (fault : TopologyFault) × (failure ≡ topology_failure_of fault) × (fault ≢ topology.NoMemory)
    × (topology_in bytes (length problem.circuit.registers) ≡ Err fault)
Refuses kinds.Moves (placed problem) bytes failure =
    (fault : MovesFault) × (failure ≡ moves_failure_of fault) × (fault ≢ moves.NoMemory)
    × (moves_in bytes problem.circuit ≡ Err fault)
Refuses (kinds.Corner number) (bare only techs) bytes failure =
    ((fault : TechFault) × (failure ≡ tech_failure_of (kinds.Corner number) fault)
    × HasFaultFor only.signals bytes fault)
    ⊎ ((failure ≡ failures.CornerHost number)
    × ((tech : Tech) × TellsDelays only.signals bytes tech × DiffersFromFirst techs tech))
Refuses kind told bytes failure = ⊥

-- it is accepted: it isn't too long, and tells this
abbrev pub IsAcceptedAs : FileKind → Told → List ℕ → (next : Told) → Type 0
IsAcceptedAs kind told bytes next = IsShortFile bytes × Means kind told bytes next

-- it is refused: it is too long, or for what it holds
abbrev pub IsRefusedAs : FileKind → Told → List ℕ → Failure → Type 0
IsRefusedAs kind told bytes failure =
    ((failure ≡ failures.TooLong kind) × (IsShortFile bytes → ⊥))
    ⊎ (IsShortFile bytes × Refuses kind told bytes failure)

-- ---- the files of a command

-- files of these kinds with these contents, one for each, are accepted, and after what is told they
-- tell this
abbrev pub Tell : List FileKind → Told → List (List ℕ) → (last : Told) → Type 0
Tell [] told [] last = last ≡ told
Tell (kind ∷ kinds) told (bytes ∷ contents) last =
    (next : Told) × IsAcceptedAs kind told bytes next × Tell kinds next contents last
Tell kinds told contents last = ⊥

-- one of them is refused with this failure, and those before it are accepted
abbrev pub RefusesFirst : List FileKind → Told → List (List ℕ) → Failure → Type 0
RefusesFirst (kind ∷ kinds) told (bytes ∷ contents) failure = IsRefusedAs kind told bytes failure
    ⊎ ((next : Told) × IsAcceptedAs kind told bytes next
    × RefusesFirst kinds next contents failure)
RefusesFirst kinds told contents failure = ⊥
