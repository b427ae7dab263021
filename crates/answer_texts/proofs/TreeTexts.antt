-- A text that spells the report of a clock tree, and the summary of one.
use Rattle.answer_texts.proofs.Vocabulary.{◌≡◌, ◌≤◌, ℕ, List, refl, All-weaker, Problem, Report, Topology, text_of, report_lines, summary_lines, IsSummaryText, IsTreeText, IsSynthesisText, IsEmbeddingText, IsCheckable}
use Rattle.cts_model.specs.Vocabulary.{IsShown, IsSmallWire}
use Rattle.cert_check.specs.declared.verdict.Verdict.TheVariants.{Shown}
use Rattle.cert_check.specs.Verdicts.{IsVerdict}
use Rattle.cert_check.proofs.JudgedLemmas.{judged_shown}
use Rattle.outcomes.specs.Syntheses.{IsReportWith, IsReportOf}
use Rattle.outcomes.specs.ShownCycles.{ShowsFromLowest}

module _ (problem : Problem) (report : Report) (lowest : ShowsFromLowest report.shown)
    (shown : IsShown problem report) where
  -- the lines of a report of the problem spell a clock tree for it
  tree_spelled : (topology : Topology) → IsReportWith problem topology report → (text : List ℕ)
      → text ≡ text_of (report_lines problem.circuit report) → IsTreeText problem text
  tree_spelled topology made text spelled = record {
    report = report;
    size = made.size;
    grid = made.bounds.tree.grid;
    lines = spelled;
    version = made.version;
    is = made.is;
    shows = made.shows;
    lowest = lowest;
    few = All-weaker IsSmallWire (λ wire. wire.used ≤ 5) (λ wire small. small.few) report.wires
        made.bounds.tree.wires;
  }

  -- that by the topology that is given
  pub embedding_spelled : (topology : Topology) → IsReportWith problem topology report
      → (text : List ℕ) → text ≡ text_of (report_lines problem.circuit report)
      → (is : IsEmbeddingText problem topology text) × IsCheckable problem is.tree.report
  unfolding tree_spelled
  embedding_spelled topology made text spelled = (
    record { tree = tree_spelled topology made text spelled; given = made.given },
    record { bounds = made.bounds; shown = judged_shown problem report shown },
  )

  module _ (made : IsReportOf problem report) where
    -- and that by the greedy one
    pub synthesis_spelled : (text : List ℕ)
        → text ≡ text_of (report_lines problem.circuit report)
        → (is : IsSynthesisText problem text) × IsCheckable problem is.tree.report
    unfolding tree_spelled
    synthesis_spelled text spelled = (
      record {
        tree = tree_spelled report.topology made.made text spelled;
        greedy = made.greedy;
      },
      record { bounds = made.made.bounds; shown = judged_shown problem report shown },
    )

    -- so the summary of a report that the checker shows is one of that tree
    pub summary_says : (registers : ℕ) → IsVerdict problem report Shown → (text : List ℕ)
        → text ≡ text_of (summary_lines registers report) → IsSummaryText registers problem text
    unfolding tree_spelled synthesis_spelled
    summary_says registers checked text spelled = record {
      printed = text_of (report_lines problem.circuit report);
      tree = (synthesis_spelled (text_of (report_lines problem.circuit report)) refl).0;
      bounds = made.made.bounds;
      checked = checked;
      spelled = spelled;
    }
