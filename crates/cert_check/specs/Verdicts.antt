-- What a report comes to: what is judged of it, in order. The reasons are this project's; what they
-- are judged by are the definitions of Fishburn 1990, Boese and Kahng 1992 and Chao and others
-- 1992.
use Rattle.std.specs.Prelude.{◌≡◌, ◌*◌, List, length}
use Rattle.cts_model.specs.declared.constraint.Constraint.{Constraint}
use Rattle.cts_model.specs.declared.place.Sink.{Sink}
use Rattle.cts_model.specs.declared.place.Uv.{Uv}
use Rattle.cts_model.specs.declared.report.Report.{Report}
use Rattle.cts_model.specs.declared.report.Version.TheVariants.{Second}
use Rattle.cts_model.specs.Vocabulary.{embedding_of, total_wire, IsFromFloor, HoldsTogether, IsOfCircuit, GivesPeriod, MeetsAt, HasShape, IsLongEnough, IsDrawnEdge, IsSkewed, IsReachShown, HasSlack, IsGivenPath, IsEarliest, number_at, cycle_of, sinks_in, source_in}
use Rattle.cts_model.specs.declared.problem.Problem.{Problem}
use Rattle.cert_check.specs.declared.verdict.Reason.TheVariants.{BelowFloor, CycleBroken, NotOfCircuit, CycleValue, ScheduleMisses, TreeShape, TooShort, WireSum, SkewDiffers, Unshown, Total, SlackDiffers, PathBroken, NotLeast}
use Rattle.cert_check.specs.declared.verdict.Verdict.{Verdict}
use Rattle.cert_check.specs.declared.verdict.Verdict.TheVariants.{Shown}
use Rattle.cert_check.specs.Judged.{Judged, JudgedOnce}

-- the period, what shows it, and the schedule that meets it
abbrev pub PeriodJudged : Problem → Report → List Constraint → Verdict → (Next : Type 0) → Type 0
PeriodJudged problem report cycle verdict Next =
    JudgedOnce (IsFromFloor problem.tech report.period) BelowFloor verdict
    (Judged (length cycle) (HoldsTogether cycle) CycleBroken verdict
    (Judged (length cycle) (IsOfCircuit problem.circuit problem.tech cycle) NotOfCircuit verdict
    (JudgedOnce (GivesPeriod problem.tech report.period report.shown) CycleValue verdict
    (Judged (length problem.circuit.registers)
    (MeetsAt problem.circuit problem.tech report.period report.schedule.at)
    ScheduleMisses verdict Next))))

-- the embedding and its drawn edges
abbrev pub EmbeddingJudged : Report → List Sink → Uv → Verdict → (Next : Type 0) → Type 0
EmbeddingJudged report sinks source verdict Next =
    Judged (2 * length sinks)
    (HasShape sinks report.topology.merges source (embedding_of report.tree)) TreeShape verdict
    (Judged (length report.tree.length)
    (IsLongEnough (length sinks) report.topology.merges (embedding_of report.tree)) TooShort verdict
    (Judged (length report.tree.length)
    (IsDrawnEdge (length sinks) report.topology.merges (embedding_of report.tree) report.wires)
    WireSum verdict Next))

-- the skews and the reaches of the tree, and its wire
abbrev pub ReachesJudged : Report → List Sink → Uv → Verdict → (Next : Type 0) → Type 0
ReachesJudged report sinks source verdict Next =
    Judged (length sinks)
    (IsSkewed sinks report.topology.merges (embedding_of report.tree)) SkewDiffers verdict
    (Judged (2 * length sinks) (IsReachShown sinks report.topology.merges source
    (embedding_of report.tree) (number_at report.tree.reach) report.shows) Unshown verdict
    (JudgedOnce (report.total ≡ total_wire (length sinks) (embedding_of report.tree)) Total verdict
    Next))

-- the slacks, and in the second version the paths of the cycle and the leads
abbrev pub RestJudged : Problem → Report → List Constraint → Verdict → (Next : Type 0) → Type 0
RestJudged problem report cycle verdict Next =
    Judged (length problem.circuit.registers)
    (HasSlack problem.circuit problem.tech report.period report.schedule.at report.slacks)
    SlackDiffers verdict
    (Judged (length cycle) (λ place. report.version ≡ Second
    → IsGivenPath problem.circuit problem.tech cycle report.paths place) PathBroken verdict
    (Judged (length problem.circuit.registers) (λ register. report.version ≡ Second
    → IsEarliest problem.circuit problem.tech report.period report.schedule.at report.leads
    register) NotLeast verdict Next))

-- the reason of the first judgement that doesn't hold, and that the report is shown where all hold,
-- for these constraints of the cycle, sinks and source
abbrev pub IsVerdictBy : Problem → Report → List Constraint → List Sink → Uv → Verdict → Type 0
IsVerdictBy problem report cycle sinks source verdict =
    PeriodJudged problem report cycle verdict
    (EmbeddingJudged report sinks source verdict
    (ReachesJudged report sinks source verdict
    (RestJudged problem report cycle verdict (verdict ≡ Shown))))

-- and for those that the report has
abbrev pub IsVerdict : Problem → Report → Verdict → Type 0
IsVerdict problem report verdict = IsVerdictBy problem report (cycle_of report.shown)
    (sinks_in problem report) (source_in problem report) verdict
