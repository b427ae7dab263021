use Rattle.report_text.proofs.Vocabulary.{pos, length, subst, arith, Circuit, Scale, Stops, forms_after}
use Rattle.report_text.proofs.BodyLemmas.{body_ends}
use Rattle.report_text.proofs.PartLemmas.{after_fault, body_fault, cycle_few, heading_fault, shown_fault}
use Rattle.report_text.proofs.WalkLemmas.{passed_on}
use Rattle.report_text.proofs.reader.parts.read_named.Goals as goal

pub read_shown-requires : goal.read_shown-requires
read_shown-requires c =
    let heading = c.in_ok-heading.ensures.ok in
    let read = heading.lines (record { den = pos 1; grid = pos 1 }) in
    let first = rw c.of-cursor.ensures at read.number in
    record { line = omega (arith, first); count = heading.count }

pub read_body-requires : goal.read_body-requires
read_body-requires c =
    let heading = c.in_ok-heading.ensures.ok in
    let read = heading.lines (record { den = pos 1; grid = pos 1 }) in
    let first = rw c.of-cursor.ensures at read.number in
    let few = cycle_few c.in_ok-heading.heading.version c.in_ok-heading.heading.count heading.count
    in
    record { line = omega (arith, first, few, c.in_ok-shown.ensures.ok.lines.number) }

pub returns-in_err-heading-clause-fault : goal.returns-in_err-heading-clause-fault
returns-in_err-heading-clause-fault c =
    passed_on _ _ _ c.from_residual.ensures.1 (heading_fault c.args.rules.circuit.now
    c.args.tech.now c.args.bytes.now _ (rw c.of-cursor.ensures at c.in_err-heading.ensures.fault))

pub returns-in_err-shown-clause-fault : goal.returns-in_err-shown-clause-fault
returns-in_err-shown-clause-fault c =
    let heading = rw c.of-cursor.ensures at c.in_ok-heading.ensures.ok in
    passed_on _ _ _ c.from_residual-in_err-shown.ensures.1 (shown_fault heading c.args.tech.now _
    (rw (c.on_grid-rules.ensures.circuit, c.on_grid-rules.ensures.scale) at
    c.in_err-shown.ensures.fault))

pub returns-in_err-body-clause-fault : goal.returns-in_err-body-clause-fault
returns-in_err-body-clause-fault c =
    let heading = rw c.of-cursor.ensures at c.in_ok-heading.ensures.ok in
    let shown = rw (c.on_grid-rules.ensures.circuit, c.on_grid-rules.ensures.scale) at
    c.in_ok-shown.ensures.ok in
    passed_on _ _ _ c.from_residual-in_err-body.ensures.1 (body_fault heading c.args.tech.now shown
    _ (subst (λ (p : Circuit × Scale). Stops p.0 p.1 (forms_after c.in_ok-heading.heading.version
    (length p.0.registers)) c.read_shown.new.cursor c.in_err-body.field-0.0) (λ i.
    (c.on_grid-rules.ensures.circuit i, c.on_grid-rules.ensures.scale i))
    c.in_err-body.ensures.fault))

pub returns-in_err-end-clause-fault : goal.returns-in_err-end-clause-fault
returns-in_err-end-clause-fault c =
    let heading = rw c.of-cursor.ensures at c.in_ok-heading.ensures.ok in
    let shown = rw (c.on_grid-rules.ensures.circuit, c.on_grid-rules.ensures.scale) at
    c.in_ok-shown.ensures.ok in
    let body = rw (c.on_grid-rules.ensures.circuit, c.on_grid-rules.ensures.scale) at
    c.in_ok-body.ensures.ok in
    passed_on _ _ _ c.from_residual-in_err-end.ensures.1 (λ named. after_fault heading
    c.args.tech.now shown _ (body_ends body _ c.in_err-end.ensures.fault))

pub returns-clause-ok : goal.returns-clause-ok
returns-clause-ok c =
    let heading = rw c.of-cursor.ensures at c.in_ok-heading.ensures.ok in
    let shown = rw (c.on_grid-rules.ensures.circuit, c.on_grid-rules.ensures.scale) at
    c.in_ok-shown.ensures.ok in
    let body = rw (c.on_grid-rules.ensures.circuit, c.on_grid-rules.ensures.scale) at
    c.in_ok-body.ensures.ok in
    search (arith, heading, shown, body, c.in_ok-end.ensures.ok)
