use Rattle.report_text.proofs.Vocabulary.{◌≡◌, refl, ap, ◌∙◌, subst, count_line, flaw_fault, ReadsForm, ReadsLine}
use Rattle.report_text.specs.LineForms as form
use Rattle.report_text.proofs.ScanLemmas.{form_read, line_says, line_stops, takes_then}
use Rattle.report_text.proofs.reader.line.read_count.Goals as goal

pub returns-in-None-clause-ok : goal.returns-in-None-clause-ok
returns-in-None-clause-ok c =
    let circuit = c.args.rules.now.circuit.now in
    let scale = c.args.rules.now.scale in
    let reads : ReadsForm circuit scale (form.Count c.args.word.now c.args.count)
    (λ words. words ≡ count_line c.args.word.now c.args.count) c.of-scan.result
    c.exactly.new.self =
    form_read refl (takes_then (c.keyword.ensures circuit) (c.exactly.ensures circuit))
    (λ are _. are) in
    let (read, says) = line_says _ c.as_slice.ensures.value c.in_ok-words.ensures.ok.2
    c.of-scan.ensures c.in_ok-words.ensures.ok.1 reads (c.in-None.ensures.judged circuit)
    (c.in-None.ensures.sound refl) in
    subst (λ words. ReadsLine circuit scale (form.Count c.args.word.now c.args.count) words
    c.args.cursor.now c.next_words.new.self) says read

pub returns-clause-fault : goal.returns-clause-fault
returns-clause-fault c =
    let circuit = c.args.rules.now.circuit.now in
    let scale = c.args.rules.now.scale in
    let reads : ReadsForm circuit scale (form.Count c.args.word.now c.args.count)
    (λ words. words ≡ count_line c.args.word.now c.args.count) c.of-scan.result
    c.exactly.new.self =
    form_read refl (takes_then (c.keyword.ensures circuit) (c.exactly.ensures circuit))
    (λ are _. are) in
    line_stops _ c.as_slice.ensures.value c.in_ok-words.ensures.ok.2 c.of-scan.ensures
    c.in_ok-words.ensures.ok.1 reads _ _ (c.in-Some.ensures.judged circuit) (c.fault_of.ensures
    (form.Count c.args.word.now c.args.count) refl ∙ ap (λ line. flaw_fault
    (form.Count c.args.word.now c.args.count) line c.in-Some.flaw) c.line-at.ensures)
