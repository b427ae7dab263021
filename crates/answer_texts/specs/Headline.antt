-- What a text of the commands `synth` and `embed` says with status 0: a clock tree whose period,
-- schedule and wire are the least, and what shows them. Fishburn, "Clock Skew Optimization", 1990;
-- Boese and Kahng 1992; Chao and others 1992.
use Rattle.std.specs.Prelude.{◌≡◌, ◌≤◌, ℕ, List, All}
use Rattle.answer_texts.specs.Types.{Problem, Report, Second, Topology}
use Rattle.cts_model.specs.Vocabulary.{IsGreedy, IsOfSize, report_lines, sinks_in, text_of, grid_of}
use Rattle.outcomes.specs.ShownCycles.{ShowsFromLowest}
use Rattle.outcomes.specs.Syntheses.{IsSynthesis, ShowsSynthesis}

-- the bytes are the lines of a clock tree for the problem, whose lengths are in steps of its grid,
-- and what shows it; the cycle that shows the period begins at its lowest register
pub record IsTreeText (problem : Problem) (text : List ℕ) : Type 0 where
  pub report : Report
  pub size : IsOfSize problem.circuit report
  pub grid : report.grid ≡ grid_of report.period problem.tech
  pub lines : text ≡ text_of (report_lines problem.circuit report)
  pub version : report.version ≡ Second
  pub is : IsSynthesis problem report
  pub shows : ShowsSynthesis problem report
  pub lowest : ShowsFromLowest report.shown
  pub few : All (λ wire. wire.used ≤ 5) report.wires

-- so they do, and the topology is the greedy one
pub record IsSynthesisText (problem : Problem) (text : List ℕ) : Type 0 where
  pub tree : IsTreeText problem text
  pub greedy : IsGreedy (sinks_in problem tree.report) tree.report.topology.merges

-- or it is the given one
pub record IsEmbeddingText (problem : Problem) (topology : Topology) (text : List ℕ)
    : Type 0 where
  pub tree : IsTreeText problem text
  pub given : tree.report.topology ≡ topology
