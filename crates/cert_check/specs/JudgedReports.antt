-- What is judged of a report at each place, as its judge has it.
use Rattle.std.specs.Prelude.{◌≡◌, ℕ, List, length}
use Rattle.cts_model.specs.declared.schedule.Slack.{Slack}
use Rattle.cts_model.specs.Vocabulary.{HasShape, HasSlack, HoldsTogether, IsDrawnEdge, IsEarliest, IsGivenPath, IsLongEnough, IsOfCircuit, IsReachShown, IsSkewed, MeetsAt, number_at, AreSlacks, Embedding, embedding_of}
use Rattle.path_delays.specs.TimedCircuits.{TimedCircuit}
use Rattle.cert_check.specs.declared.judge.Judge.{Judge}
use Rattle.cert_check.specs.declared.verdict.Reason.TheVariants.{TooShort, WireSum}
use Rattle.cert_check.specs.declared.verdict.Verdict.{Verdict}
use Rattle.cert_check.specs.Judged.{Judged}
use Rattle.cert_check.specs.Verdicts.{ReachesJudged}

-- the slacks of the registers, as the report's schedule has the arrivals
abbrev pub HasSlacks : Judge → List Slack → Type 0
HasSlacks judge slacks = AreSlacks judge.problem.now.circuit judge.problem.now.tech
    judge.report.now.period judge.report.now.schedule slacks

-- paths of the problem's circuit
abbrev pub HasPaths : Judge → TimedCircuit → Type 0
HasPaths judge paths = paths ≡ record {
  circuit = judge.problem.now.circuit;
  tech = judge.problem.now.tech;
}

-- where the nodes of the report's tree stand, and how long its edges are
abbrev pub tree_of : Judge → Embedding
tree_of judge = embedding_of judge.report.now.tree

-- at a place of the cycle
abbrev pub Together : Judge → (place : ℕ) → Type 0
Together judge = HoldsTogether judge.cycle.now

abbrev pub OfCircuit : Judge → (place : ℕ) → Type 0
OfCircuit judge = IsOfCircuit judge.problem.now.circuit judge.problem.now.tech judge.cycle.now

abbrev pub GivenPath : Judge → (place : ℕ) → Type 0
GivenPath judge = IsGivenPath judge.problem.now.circuit judge.problem.now.tech judge.cycle.now
    judge.report.now.paths

-- at a register
abbrev pub Meets : Judge → (register : ℕ) → Type 0
Meets judge = MeetsAt judge.problem.now.circuit judge.problem.now.tech judge.report.now.period
    judge.report.now.schedule.at

abbrev pub Spares : Judge → (register : ℕ) → Type 0
Spares judge = HasSlack judge.problem.now.circuit judge.problem.now.tech
    judge.report.now.period judge.report.now.schedule.at judge.report.now.slacks

abbrev pub Earliest : Judge → (register : ℕ) → Type 0
Earliest judge = IsEarliest judge.problem.now.circuit judge.problem.now.tech
    judge.report.now.period judge.report.now.schedule.at judge.report.now.leads

abbrev pub Skewed : Judge → (register : ℕ) → Type 0
Skewed judge = IsSkewed judge.sinks.now judge.report.now.topology.merges (tree_of judge)

-- at a node, or the edge down to it
abbrev pub Shaped : Judge → (node : ℕ) → Type 0
Shaped judge = HasShape judge.sinks.now judge.report.now.topology.merges judge.source
    (tree_of judge)

abbrev pub LongEnough : Judge → (edge : ℕ) → Type 0
LongEnough judge = IsLongEnough (length judge.sinks.now) judge.report.now.topology.merges
    (tree_of judge)

abbrev pub Drawn : Judge → (edge : ℕ) → Type 0
Drawn judge = IsDrawnEdge (length judge.sinks.now) judge.report.now.topology.merges
    (tree_of judge) judge.report.now.wires

abbrev pub HasReach : Judge → (node : ℕ) → Type 0
HasReach judge = IsReachShown judge.sinks.now judge.report.now.topology.merges judge.source
    (tree_of judge) (number_at judge.report.now.tree.reach) judge.report.now.shows

-- the edges of a tree whose nodes are judged, its skews, its reaches and its wire
abbrev pub JudgedTree : Judge → Verdict → (Next : Type 0) → Type 0
JudgedTree judge verdict Next =
    Judged (length judge.report.now.tree.length) (LongEnough judge) TooShort verdict
    (Judged (length judge.report.now.tree.length) (Drawn judge) WireSum verdict
    (ReachesJudged judge.report.now judge.sinks.now judge.source verdict Next))
