use Rattle.report_text.proofs.Vocabulary.{map, refl, sym, ap, ◌∙◌, arith, flaw_fault}
use Rattle.report_text.proofs.ScanLemmas.{line_says, line_stops, some_words}
use Rattle.report_text.proofs.reader.line.read.Goals as goal

pub read-requires : goal.read-requires
read-requires g c = search (arith, some_words)

pub returns-in-None-clause-ok : goal.returns-in-None-clause-ok
returns-in-None-clause-ok g c =
    let (read, says) = line_says c.in_ok-words.ensures.ok.0 c.as_slice.ensures.value
    c.in_ok-words.ensures.ok.2 c.of-scan.ensures c.in_ok-words.ensures.ok.1
    c.in_ok-line.ensures.read
    (c.in-None.ensures.judged c.args.rules.now.circuit.now) (c.in-None.ensures.sound refl) in
    record { words = map (λ word. word.now) c.as_slice.result.now; line = read; denoted = says }

pub returns-clause-fault : goal.returns-clause-fault
returns-clause-fault g c =
    let due = g.L.Line.due c.args.number in
    line_stops _ c.as_slice.ensures.value c.in_ok-words.ensures.ok.2 c.of-scan.ensures
    c.in_ok-words.ensures.ok.1 c.in_ok-line.ensures.read _ _
    (c.in-Some.ensures.judged c.args.rules.now.circuit.now) (c.fault_of.ensures due
    (sym (c.in_ok-line.ensures.named c.line-at.result)) ∙ ap (λ line. flaw_fault due line
    c.in-Some.flaw) c.line-at.ensures)
