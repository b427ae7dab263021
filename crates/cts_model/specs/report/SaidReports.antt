-- What a report says of a problem, in the words in which periods, schedules and trees are defined.
-- Fishburn 1990; Boese and Kahng 1992; Chao and others 1992; leads as in the trees of shortest
-- paths of Cormen and others, "Introduction to Algorithms", 2001.
use Rattle.std.specs.Prelude.{◌≡◌, ◌≢◌, ◌↔◌, ℕ, List, [], All, length, Some, nat_abs, slice_get}
use Rattle.cts_base.specs.declared.fraction.Fraction.{Fraction}
use Rattle.cts_model.specs.Types.{Circuit, Constraint, PeriodShow, Cycle, Floor, Sink, Uv, Report, Second, Tech}
use Rattle.cts_model.specs.declared.problem.Problem.{Problem}
use Rattle.cts_model.specs.Terms.{GivesWeight, IsConstraintOf, ShowsPeriod, IsEmbedding, embedding_of, total_wire, EachShowsEarliest, IsFloorPeriod, RealisesSchedule, AreFromZero, arrival_of, AreShownBy, AreSlacks, Meets, IsTopology, IsReachDown}
use Rattle.cts_model.specs.report.Judgements.{IsDrawnEdge, IsFromFloor}
use Rattle.cts_model.specs.report.ReportBounds.{IsOfSize, IsWithinBounds}
use Rattle.cts_model.specs.report.ReportLines.{number_at}
use Rattle.cts_model.specs.report.Shown.{IsShown, cycle_of, sinks_in, source_in}

-- a cycle of the circuit's constraints shows the period, or it is the floor
abbrev pub IsPeriodShown : Circuit → Tech → Fraction → PeriodShow → Type 0
IsPeriodShown circuit tech period (Cycle cycle) = All (IsConstraintOf circuit tech) cycle
    × ShowsPeriod cycle period.num (nat_abs period.den)
IsPeriodShown circuit tech period Floor = IsFloorPeriod tech period

-- the period is shown, and isn't below the floor; the schedule meets it, with these slacks
pub record ShowsTiming (circuit : Circuit) (tech : Tech) (report : Report) : Type 0 where
  pub from_floor : IsFromFloor tech report.period
  pub shown : IsPeriodShown circuit tech report.period report.shown
  pub meets : Meets circuit tech (nat_abs report.period.den) report.period.num
      (arrival_of report.schedule.at)
  pub slacks : AreSlacks circuit tech report.period report.schedule report.slacks

-- each path that is printed gives its constraint the weight; no arrival is below 0, and each has
-- its lead
pub record ShowsLeads (circuit : Circuit) (tech : Tech) (report : Report) : Type 0 where
  pub paths : (place : ℕ) (constraint : Constraint) (path : List ℕ)
      → slice_get (cycle_of report.shown) place ≡ Some constraint
      → slice_get report.paths place ≡ Some path → path ≢ []
      → GivesWeight circuit tech constraint path
  pub from_zero : AreFromZero (length report.schedule.at) (arrival_of report.schedule.at)
  pub led : EachShowsEarliest (IsConstraintOf circuit tech) report.period report.schedule.at
      report.leads

-- the merges are a topology, embedded and drawn so that the wires realise the schedule; each reach
-- is that of its node, and each merge and the source is shown by its entry; this is all the wire
pub record ShowsTree (tech : Tech) (sinks : List Sink) (source : Uv) (report : Report)
    : Type 0 where
  pub topology : IsTopology (length sinks) report.topology.merges
  pub embedding : IsEmbedding 1 sinks report.topology.merges source (embedding_of report.tree)
  pub drawn : (edge : ℕ) → IsDrawnEdge (length sinks) report.topology.merges
      (embedding_of report.tree) report.wires edge
  pub realises : RealisesSchedule 1 report.period tech report.topology.merges report.schedule
      (embedding_of report.tree)
  pub reaches : (node : ℕ) → IsReachDown sinks report.topology.merges
      (number_at report.tree.length) node (number_at report.tree.reach node)
  pub shows : AreShownBy sinks report.topology.merges source (number_at report.tree.reach)
      report.shows
  pub total : report.total ≡ total_wire (length sinks) (embedding_of report.tree)

-- all that the report says of the problem is so
pub record ShowsWhatItSays (problem : Problem) (report : Report) : Type 0 where
  pub timing : ShowsTiming problem.circuit problem.tech report
  pub tree : ShowsTree problem.tech (sinks_in problem report) (source_in problem report) report
  pub leads : report.version ≡ Second → ShowsLeads problem.circuit problem.tech report

-- a report is shown, place by place, exactly where all that it says is so. It is the clause of a
-- function of the module laws.
abbrev pub ShownIsWhatItSays : Type 0
ShownIsWhatItSays = (problem : Problem) (report : Report) → IsOfSize problem.circuit report
    → IsWithinBounds problem.tech report → (IsShown problem report ↔ ShowsWhatItSays problem report)
