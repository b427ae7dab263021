use Rattle.report_text.proofs.Vocabulary.{[], ◌∷◌, arith}
use Rattle.report_text.specs.LineForms as form
use Rattle.report_text.proofs.BodyLemmas.{heading_read}
use Rattle.report_text.proofs.WalkLemmas.{passed_on, stop_after, stop_before, stop_line}
use Rattle.report_text.proofs.reader.heading.read_heading.Goals as goal

pub read-requires-2 : goal.read-requires-2
read-requires-2 c =
    let version = c.in_ok-version.ensures.ok in
    let read = version.line.read c.args.rules.now.scale version.line.flawless in
    record { line = omega (arith, read.number, c.requires.line) }

pub read-requires-3 : goal.read-requires-3
read-requires-3 c =
    let version = c.in_ok-version.ensures.ok in
    let read = version.line.read c.args.rules.now.scale version.line.flawless in
    let period = c.in_ok-period.ensures.ok in
    let next = period.line.read c.args.rules.now.scale period.line.flawless in
    record { line = omega (arith, read.number, next.number, c.requires.line) }

pub returns-in_err-version-clause-fault : goal.returns-in_err-version-clause-fault
returns-in_err-version-clause-fault c = search (arith, passed_on, stop_before, stop_line)

pub returns-in_err-period-clause-fault : goal.returns-in_err-period-clause-fault
returns-in_err-period-clause-fault c =
    let circuit = c.args.rules.now.circuit.now in
    let version = c.in_ok-version.ensures.ok.line in
    passed_on _ _ _ c.from_residual-in_err-period.ensures.1 (λ scale. stop_after
    (version.read scale version.flawless) (form.Period ∷ form.Show ∷ []) _ (stop_before circuit
    scale (form.Period ∷ []) (form.Show ∷ []) c.read.new.cursor _ (stop_line circuit scale
    form.Period c.read.new.cursor _ c.in_err-period.ensures.fault)))

pub returns-in_err-count-clause-fault : goal.returns-in_err-count-clause-fault
returns-in_err-count-clause-fault c =
    let version = c.in_ok-version.ensures.ok.line in
    let period = c.in_ok-period.ensures.ok.line in
    passed_on _ _ _ c.from_residual-in_err-count.ensures.1 (λ scale. stop_after
    (version.read scale version.flawless) (form.Period ∷ form.Show ∷ []) _ (stop_after
    (period.read scale period.flawless) (form.Show ∷ []) _ (stop_line c.args.rules.now.circuit.now
    scale form.Show c.read-2.new.cursor _ c.in_err-count.ensures.fault)))

pub returns-clause-ok : goal.returns-clause-ok
returns-clause-ok c =
    heading_read _ _ _ _ _ _ _ _ _ c.in_ok-version.ensures.ok c.in_ok-period.ensures.ok
    c.in_ok-count.ensures.ok
