use Rattle.report_text.proofs.Vocabulary.{subst, Stops}
use Rattle.report_text.specs.LineForms as form
use Rattle.report_text.proofs.BodyLemmas.{cycle_shown}
use Rattle.report_text.proofs.RowLemmas.{one_form}
use Rattle.report_text.proofs.WalkLemmas.{passed_on}
use Rattle.report_text.proofs.reader.heading.read_shown.Goals as goal

pub returns-in_err-cycle-in-First-clause-fault : goal.returns-in_err-cycle-in-First-clause-fault
returns-in_err-cycle-in-First-clause-fault c =
    let circuit = c.args.rules.now.circuit.now in
    let scale = c.args.rules.now.scale in
    let fault = c.in_err-cycle-in-First.field-0.0 in
    rw (c.in-Some.is, c.in-First.is) (passed_on _ _ _ c.from_residual.ensures.1
    (subst (λ forms. Stops circuit scale forms c.args.cursor.now fault)
    (one_form form.Constraint 0 c.in-Some.count) c.in_err-cycle-in-First.ensures.fault))

pub returns-in_ok-cycle-in-First-clause-ok : goal.returns-in_ok-cycle-in-First-clause-ok
returns-in_ok-cycle-in-First-clause-ok c =
    rw (c.in-Some.is, c.in-First.is, c.new-in-First.ensures) (cycle_shown
    c.in_ok-cycle-in-First.cycle (rw c.in-Some.is at c.requires.count)
    c.in_ok-cycle-in-First.ensures.ok)
