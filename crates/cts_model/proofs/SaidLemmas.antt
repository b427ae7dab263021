-- What is judged of a report, place by place, is what it says as a whole.
use Rattle.cts_model.proofs.Vocabulary.{sym, ◌∙◌, Problem, Report, IsOfSize, IsWithinBounds, ShowsWhatItSays, IsShown}
use Rattle.std.specs.Prelude.{◌↔◌}
use Rattle.cts_model.proofs.SaidTimings.{judged_leads, judged_timing, said_leads, said_timing}
use Rattle.cts_model.proofs.SaidTrees.{judged_tree, said_tree}
use Rattle.cts_model.proofs.ShownLemmas.{edges_count, merges_count, shown_is_least, sinks_count, sinks_level}

-- so a report is shown exactly where all that it says is so
pub shown_is_what_it_says : (problem : Problem) (report : Report) → IsOfSize problem.circuit report
    → IsWithinBounds problem.tech report → (IsShown problem report ↔ ShowsWhatItSays problem report)
shown_is_what_it_says problem report size bounds = (
  λ shown. record {
    timing = said_timing problem.circuit problem.tech report size.arrivals size.slacks shown.timing;
    tree = said_tree problem.tech report (merges_count problem report size bounds)
        (edges_count problem report size bounds) (sinks_level problem report size bounds) shown.tree
        (size.shows ∙ sym size.arrivals ∙ sym (sinks_count problem report size bounds))
        (shown_is_least problem report size bounds shown).realises;
    leads = λ second. said_leads problem.circuit problem.tech report size.arrivals
        (shown.least second);
  },
  λ said. record {
    timing = judged_timing problem.circuit problem.tech report size.arrivals said.timing;
    tree = judged_tree problem.tech report (merges_count problem report size bounds)
        (edges_count problem report size bounds) (sinks_level problem report size bounds) said.tree;
    least = λ second. judged_leads problem.circuit problem.tech report size.arrivals
        (said.leads second);
  },
)
