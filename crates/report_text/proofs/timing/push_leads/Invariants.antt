use Rattle.report_text.proofs.Vocabulary.{◌≡◌, ◌++◌, map, take, text_of, lead_line}
use Rattle.report_text.proofs.timing.push_leads.Given as goal

-- the leads so far
abbrev pub invariant-loop-lead : goal.invariant-loop-lead
invariant-loop-lead l =
    l.out.items ≡ l.fn.out.items ++ text_of (map (lead_line l.printed.circuit.now)
    (take l.lead-index l.printed.report.now.leads))
