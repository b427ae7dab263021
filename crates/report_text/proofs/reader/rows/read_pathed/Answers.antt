use Rattle.report_text.proofs.Vocabulary.{[], ◌∷◌, arith, cycle_forms}
use Rattle.cts_model.specs.declared.report.Version.TheVariants as version
use Rattle.report_text.specs.LineForms as form
use Rattle.report_text.proofs.RowLemmas.{length_pathed, pathed_next, pathed_step}
use Rattle.report_text.proofs.WalkLemmas.{next_stops, passed_on, stop_before, stop_after, stop_line}
use Rattle.report_text.proofs.reader.rows.read_pathed.Goals as goal

pub read-requires : goal.read-requires
read-requires c = record { line = omega (arith, length_pathed c.loop-place._place) }

pub read_path-requires : goal.read_path-requires
read_path-requires c =
    let next = c.in_ok-constraint.ensures.ok in
    let read = next.line.read c.args.rules.now.scale next.line.flawless in
    record { line = omega (arith, length_pathed c.loop-place._place) }

pub returns-in_err-constraint-clause-fault : goal.returns-in_err-constraint-clause-fault
returns-in_err-constraint-clause-fault c =
    passed_on _ _ _ c.from_residual.ensures.1 (next_stops (cycle_forms version.Second)
    (λ n. form.Constraint ∷ form.Path ∷ []) pathed_step _ _ _ _ _ _ c.loop-place-test.true
    c.loop-place.invariant.lines (stop_before c.args.rules.now.circuit.now c.args.rules.now.scale
    (form.Constraint ∷ []) (form.Path ∷ []) c.loop-place.cursor _
    (stop_line c.args.rules.now.circuit.now c.args.rules.now.scale form.Constraint
    c.loop-place.cursor _ c.in_err-constraint.ensures.fault)))

pub returns-in_err-path-clause-fault : goal.returns-in_err-path-clause-fault
returns-in_err-path-clause-fault c =
    let next = c.in_ok-constraint.ensures.ok in
    passed_on _ _ _ c.from_residual-in_err-path.ensures.1 (next_stops (cycle_forms version.Second)
    (λ n. form.Constraint ∷ form.Path ∷ []) pathed_step _ _ _ _ _ _ c.loop-place-test.true
    c.loop-place.invariant.lines (stop_after (next.line.read c.args.rules.now.scale
    next.line.flawless) (form.Path ∷ []) _ (stop_line c.args.rules.now.circuit.now
    c.args.rules.now.scale form.Path c.read.new.cursor _ c.in_err-path.ensures.fault)))

pub loop-place-preserved : goal.loop-place-preserved
loop-place-preserved c =
    pathed_next _ _ _ _ _ c.loop-place.invariant c.in_ok-constraint.ensures.ok
    c.in_ok-path.ensures.ok c.in_ok-push.ensures.ok c.in_ok-push-2.ensures.ok
