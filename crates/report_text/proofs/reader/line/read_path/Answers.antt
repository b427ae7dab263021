use Rattle.report_text.proofs.Vocabulary.{map, refl, ap, ◌∙◌, flaw_fault}
use Rattle.report_text.specs.LineForms as form
use Rattle.report_text.proofs.ScanLemmas.{line_says, line_stops}
use Rattle.report_text.proofs.reader.line.read_path.Goals as goal

pub returns-in-None-clause-ok : goal.returns-in-None-clause-ok
returns-in-None-clause-ok c =
    let (read, says) = line_says c.in_ok-words.ensures.ok.0 c.as_slice.ensures.value
    c.in_ok-words.ensures.ok.2 c.of-scan.ensures c.in_ok-words.ensures.ok.1 c.in_ok-path.ensures
    (c.in-None.ensures.judged c.args.rules.now.circuit.now) (c.in-None.ensures.sound refl) in
    record { words = map (λ word. word.now) c.as_slice.result.now; line = read; denoted = says }

pub returns-clause-fault : goal.returns-clause-fault
returns-clause-fault c =
    line_stops _ c.as_slice.ensures.value c.in_ok-words.ensures.ok.2 c.of-scan.ensures
    c.in_ok-words.ensures.ok.1 c.in_ok-path.ensures _ _
    (c.in-Some.ensures.judged c.args.rules.now.circuit.now) (c.fault_of.ensures form.Path refl
    ∙ ap (λ line. flaw_fault form.Path line c.in-Some.flaw) c.line-at.ensures)
