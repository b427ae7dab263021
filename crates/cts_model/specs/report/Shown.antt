-- A report that shows what it says of a problem, whoever made it, and what follows from that.
-- Fishburn 1990; Boese and Kahng 1992; Chao and others 1992; leads as in the trees of shortest
-- paths of Cormen and others, "Introduction to Algorithms", 2001.
use Rattle.std.specs.Prelude.{◌≡◌, ◌<◌, ◌*◌, ℕ, List, [], length, nat_abs}
use Rattle.cts_model.specs.Types.{Circuit, Constraint, PeriodShow, Cycle, Floor, Sink, Uv, Report, Second, Tech}
use Rattle.cts_model.specs.declared.problem.Problem.{Problem}
use Rattle.cts_model.specs.Terms.{IsEmbedding, embedding_of, total_wire, IsLeastFraction, on_grid, sinks_of, RealisesSchedule, rotated, arrival_of, IsLeastSchedule, IsLeastForSchedule, Meets, IsTopology}
use Rattle.cts_model.specs.report.Judgements.{IsFromFloor, HoldsTogether, IsOfCircuit, GivesPeriod, MeetsAt, HasShape, IsLongEnough, IsDrawnEdge, IsSkewed, IsReachShown, HasSlack, IsGivenPath, IsEarliest}
use Rattle.cts_model.specs.report.ReportBounds.{IsOfSize, IsWithinBounds}
use Rattle.cts_model.specs.report.ReportLines.{number_at}

-- the registers as the report's tree has them, and where its source stands
abbrev pub sinks_in : Problem → Report → List Sink
sinks_in problem report =
    sinks_of report.period problem.tech problem.places.registers report.schedule.at

abbrev pub source_in : Problem → Report → Uv
source_in problem report = rotated (on_grid report.period problem.tech problem.places.source)

-- the constraints of the cycle that is shown, and none for the floor
abbrev pub cycle_of : PeriodShow → List Constraint
cycle_of (Cycle cycle) = cycle
cycle_of Floor = []

-- what holds at each of so many places
abbrev pub AtEach : (places : ℕ) → (Holds : ℕ → Type 0) → Type 0
AtEach places Holds = (place : ℕ) → place < places → Holds place

-- the period, its cycle or floor, and the schedule hold up
pub record IsShownTiming (circuit : Circuit) (tech : Tech) (report : Report) : Type 0 where
  pub from_floor : IsFromFloor tech report.period
  pub together : AtEach (length (cycle_of report.shown)) (HoldsTogether (cycle_of report.shown))
  pub of_circuit : AtEach (length (cycle_of report.shown))
      (IsOfCircuit circuit tech (cycle_of report.shown))
  pub gives : GivesPeriod tech report.period report.shown
  pub meets : AtEach (length circuit.registers)
      (MeetsAt circuit tech report.period report.schedule.at)
  pub slacks : AtEach (length circuit.registers)
      (HasSlack circuit tech report.period report.schedule.at report.slacks)

-- and in the second version so do the paths of the cycle and the leads
pub record IsShownLeast (circuit : Circuit) (tech : Tech) (report : Report) : Type 0 where
  pub paths : AtEach (length (cycle_of report.shown))
      (IsGivenPath circuit tech (cycle_of report.shown) report.paths)
  pub earliest : AtEach (length circuit.registers)
      (IsEarliest circuit tech report.period report.schedule.at report.leads)

-- the tree is an embedding with these offsets, drawn as long as it is, and its reaches are shown
pub record IsShownTree (sinks : List Sink) (source : Uv) (report : Report) : Type 0 where
  pub shape : AtEach (2 * length sinks)
      (HasShape sinks report.topology.merges source (embedding_of report.tree))
  pub long_enough : AtEach (length report.tree.length)
      (IsLongEnough (length sinks) report.topology.merges (embedding_of report.tree))
  pub drawn : AtEach (length report.tree.length)
      (IsDrawnEdge (length sinks) report.topology.merges (embedding_of report.tree) report.wires)
  pub skewed : AtEach (length sinks)
      (IsSkewed sinks report.topology.merges (embedding_of report.tree))
  pub reaches : AtEach (2 * length sinks) (IsReachShown sinks report.topology.merges source
      (embedding_of report.tree) (number_at report.tree.reach) report.shows)
  pub total : report.total ≡ total_wire (length sinks) (embedding_of report.tree)

-- the report shows what it says of the problem
pub record IsShown (problem : Problem) (report : Report) : Type 0 where
  pub timing : IsShownTiming problem.circuit problem.tech report
  pub tree : IsShownTree (sinks_in problem report) (source_in problem report) report
  pub least : report.version ≡ Second → IsShownLeast problem.circuit problem.tech report

-- no smaller period is admitted; the schedule meets it, and the tree, whose wire delays are the
-- schedule's but for a common one, has the least wire of all such trees over its topology
pub record ShowsLeast (problem : Problem) (report : Report) : Type 0 where
  pub period : IsLeastFraction problem.circuit problem.tech report.period
  pub meets : Meets problem.circuit problem.tech (nat_abs report.period.den) report.period.num
      (arrival_of report.schedule.at)
  pub topology : IsTopology (length (sinks_in problem report)) report.topology.merges
  pub embedding : IsEmbedding 1 (sinks_in problem report) report.topology.merges
      (source_in problem report) (embedding_of report.tree)
  pub realises : RealisesSchedule 1 report.period problem.tech report.topology.merges
      report.schedule (embedding_of report.tree)
  pub wire : IsLeastForSchedule report.period problem.tech problem.places.registers
      report.schedule report.topology.merges (source_in problem report) report.total
  pub schedule : report.version ≡ Second
      → IsLeastSchedule problem.circuit problem.tech report.period report.schedule

-- what a report shows is so. It is the clause of a function of the module laws.
abbrev pub ShownIsLeast : Type 0
ShownIsLeast = (problem : Problem) (report : Report) → IsOfSize problem.circuit report
    → IsWithinBounds problem.tech report → IsShown problem report → ShowsLeast problem report
