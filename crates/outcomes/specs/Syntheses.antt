-- What a synthesis makes: the least period, the least schedule, and the tree with the least wire
-- for its topology that realises the schedule. Fishburn 1990; Boese and Kahng 1992; Chao and others
-- 1992.
use Rattle.std.specs.Prelude.{◌≡◌, ℕ, ℤ, List, length, take, slice_get, IsSomeAnd}
use Rattle.outcomes.specs.Types.{Point, Problem, Report, Second, Merge, Topology, Wire}
use Rattle.cts_model.specs.Vocabulary.{ArePathsOf, IsConstraintOf, IsDrawn, Embedding, IsEmbedding, IsLeastWire, embedding_of, total_wire, IsGreedy, EachLead, IsLeastFraction, IsPeriodShow, RealisesSchedule, IsOfSize, IsWithinBounds, IsLeastSchedule, sinks_in, source_in, IsLeastForSchedule, AreSlacks, IsParent, IsTopology, MeetsByWire}
pub use Rattle.place_down.specs.Trees.{IsPlacedTree}
use Rattle.wire_detours.specs.WirePoints.{ArePoints}

-- each edge has a wire, and this holds of where it leads from and to, its length and the points of
-- its wire
abbrev pub EachEdge : (Holds : Point → Point → ℤ → List Point → Type 0) → (sinks : ℕ)
    → List Merge → Embedding → List Wire → Type 0
EachEdge Holds sinks merges tree wires = (node parent : ℕ) → IsParent sinks merges node parent
    → IsSomeAnd (slice_get wires node) (λ wire. Holds (tree.place parent) (tree.place node)
    (tree.length node) (take wire.used wire.corners))

-- a clock tree for the problem: its period and its schedule are the least, its wire delays have
-- just the scheduled skews, and its wire is the least for its topology
pub record IsSynthesis (problem : Problem) (report : Report) : Type 0 where
  -- some arrivals meet the period, and none a smaller one that isn't below the table's floor
  pub least_period : IsLeastFraction problem.circuit problem.tech report.period
  -- the arrivals of the schedule meet it, and no others from 0 on are earlier
  pub least_schedule : IsLeastSchedule problem.circuit problem.tech report.period report.schedule
  -- the merges join all registers into one tree
  pub topology : IsTopology (length (sinks_in problem report)) report.topology.merges
  -- the registers and the source stand where the placement has them, and no edge is shorter than
  -- the distance of its ends
  pub embedded : IsEmbedding 1 (sinks_in problem report) report.topology.merges
      (source_in problem report) (embedding_of report.tree)
  -- the wire delays from the source differ by exactly the scheduled skews, so every path meets
  -- setup and hold
  pub realises : RealisesSchedule 1 report.period problem.tech report.topology.merges
      report.schedule (embedding_of report.tree)
  pub meets : MeetsByWire problem.circuit problem.tech report.period realises.wire
  -- no embedding of the topology with these skews has less wire, whatever its scale
  pub least_wire : IsLeastForSchedule report.period problem.tech problem.places.registers
      report.schedule report.topology.merges (source_in problem report) report.total
  -- each edge has its drawn wire, and the total is that of the tree
  pub drawn : EachEdge IsDrawn (length (sinks_in problem report)) report.topology.merges
      (embedding_of report.tree) report.wires
  pub total : report.total
      ≡ total_wire (length (sinks_in problem report)) (embedding_of report.tree)

-- what shows it, and what each register has to spare: a cycle or the floor, a path for each
-- constraint of the cycle, a lead for each register, and for each merge, which stands at its chosen
-- place with the least reach, two of its sinks; each wire has the points that its edge gets
pub record ShowsSynthesis (problem : Problem) (report : Report) : Type 0 where
  pub shown : IsPeriodShow problem.circuit problem.tech report.period report.shown
  pub paths : ArePathsOf problem.circuit problem.tech report.shown report.paths
  pub leads : EachLead (IsConstraintOf problem.circuit problem.tech) report.period
      report.schedule.at report.leads
  pub slacks : AreSlacks problem.circuit problem.tech report.period report.schedule report.slacks
  pub placed : IsPlacedTree (sinks_in problem report) report.topology.merges
      (source_in problem report) report.tree report.shows
  pub points : EachEdge ArePoints (length (sinks_in problem report)) report.topology.merges
      (embedding_of report.tree) report.wires

-- the report of a problem with a topology, which no embedding realises with less wire
pub record IsReportWith (problem : Problem) (topology : Topology) (report : Report) : Type 0 where
  pub version : report.version ≡ Second
  pub size : IsOfSize problem.circuit report
  pub bounds : IsWithinBounds problem.tech report
  pub is : IsSynthesis problem report
  pub shows : ShowsSynthesis problem report
  pub least : IsLeastWire (sinks_in problem report) report.topology.merges
      (source_in problem report) report.total
  pub given : report.topology ≡ topology

-- the report of a problem with the greedy topology
pub record IsReportOf (problem : Problem) (report : Report) : Type 0 where
  pub made : IsReportWith problem report.topology report
  pub greedy : IsGreedy (sinks_in problem report) report.topology.merges
