use Rattle.report_text.proofs.Vocabulary.{[], ◌∷◌, ◌++◌, append_assoc, refl, sym, arith, forms_after, lead_forms}
use Rattle.report_text.specs.LineForms as form
use Rattle.report_text.proofs.BodyLemmas.{lines_before_merges, merge_forms, node_forms, register_forms, stops_within}
use Rattle.report_text.proofs.RowLemmas.{counted_number, counted_read}
use Rattle.report_text.proofs.WalkLemmas.{passed_on, read_more, read_none, stop_after, stop_line}
use Rattle.report_text.proofs.reader.body.read_body.Goals as goal

pub read_rows-requires : goal.read_rows-requires
read_rows-requires c =
    let registers = counted_number c.in_ok-timings.ensures.ok in
    record { few = omega arith }

pub read_counted-requires-2 : goal.read_counted-requires-2
read_counted-requires-2 c =
    let before = lines_before_merges c.in_ok-timings.ensures.ok c.in_ok-leads.ensures.ok
    c.leads_in.ensures.few in
    record { few = omega arith }

pub read-requires : goal.read-requires
read-requires c =
    let before = lines_before_merges c.in_ok-timings.ensures.ok c.in_ok-leads.ensures.ok
    c.leads_in.ensures.few in
    let merged = counted_number c.in_ok-merged.ensures.ok in
    record { line = omega arith }

pub read_counted-requires-3 : goal.read_counted-requires-3
read_counted-requires-3 c =
    let before = lines_before_merges c.in_ok-timings.ensures.ok c.in_ok-leads.ensures.ok
    c.leads_in.ensures.few in
    let merged = counted_number c.in_ok-merged.ensures.ok in
    let source = c.in_ok-source.ensures.ok in
    let read = source.line.read c.args.rules.now.scale source.line.flawless in
    record { few = omega arith }

pub read-requires-2 : goal.read-requires-2
read-requires-2 c =
    let before = lines_before_merges c.in_ok-timings.ensures.ok c.in_ok-leads.ensures.ok
    c.leads_in.ensures.few in
    let merged = counted_number c.in_ok-merged.ensures.ok in
    let source = c.in_ok-source.ensures.ok in
    let read = source.line.read c.args.rules.now.scale source.line.flawless in
    let placed = counted_number c.in_ok-placed.ensures.ok in
    record { line = omega arith }

pub returns-in_err-timings-clause-fault : goal.returns-in_err-timings-clause-fault
returns-in_err-timings-clause-fault c =
    let count = c.registers_of-count.result in
    rw (sym c.registers_of-count.ensures.value) (passed_on _ _ _ c.from_residual.ensures.1
    (stops_within (forms_after c.args.version count) [] (register_forms count) (lead_forms
    c.args.version count ++ merge_forms count ++ form.Source ∷ node_forms count ++ form.Total ∷ [])
    (simp append_assoc) _ (read_none c.args.rules.now.circuit.now c.args.rules.now.scale
    c.args.cursor.now) c.in_err-timings.ensures.fault))

pub returns-in_err-leads-clause-fault : goal.returns-in_err-leads-clause-fault
returns-in_err-leads-clause-fault c =
    let count = c.registers_of-count.result in
    rw (sym c.registers_of-count.ensures.value) (passed_on _ _ _
    c.from_residual-in_err-leads.ensures.1 (stops_within (forms_after c.args.version count)
    (register_forms count) (lead_forms c.args.version count) (merge_forms count ++ form.Source ∷
    node_forms count ++ form.Total ∷ []) (search (arith, append_assoc)) _ (counted_read
    c.in_ok-timings.ensures.ok) (rw c.leads_in.ensures.value at c.in_err-leads.ensures.fault)))

pub returns-in_err-merged-clause-fault : goal.returns-in_err-merged-clause-fault
returns-in_err-merged-clause-fault c =
    let count = c.registers_of-count.result in
    let leads = read_more (counted_read c.in_ok-timings.ensures.ok)
    (lead_forms c.args.version count) _ _
    (rw c.leads_in.ensures.value at c.in_ok-leads.ensures.ok).read in
    rw (sym c.registers_of-count.ensures.value) (passed_on _ _ _
    c.from_residual-in_err-merged.ensures.1 (stops_within (forms_after c.args.version count)
    (register_forms count ++ lead_forms c.args.version count) (merge_forms count) (form.Source ∷
    node_forms count ++ form.Total ∷ []) (simp append_assoc) _ leads c.in_err-merged.ensures.fault))

pub returns-in_err-source-clause-fault : goal.returns-in_err-source-clause-fault
returns-in_err-source-clause-fault c =
    let count = c.registers_of-count.result in
    let leads = read_more (counted_read c.in_ok-timings.ensures.ok)
    _ _ _ (rw c.leads_in.ensures.value at c.in_ok-leads.ensures.ok).read in
    let merged = read_more leads _ _ _ (counted_read c.in_ok-merged.ensures.ok) in
    rw (sym c.registers_of-count.ensures.value) (passed_on _ _ _
    c.from_residual-in_err-source.ensures.1 (stops_within (forms_after c.args.version count)
    (register_forms count ++ lead_forms c.args.version count ++ merge_forms count)
    (form.Source ∷ []) (node_forms count ++ form.Total ∷ []) (simp append_assoc) _ merged
    (stop_line c.args.rules.now.circuit.now c.args.rules.now.scale form.Source
    c.read_counted-2.new.cursor _ c.in_err-source.ensures.fault)))

pub returns-in_err-placed-clause-fault : goal.returns-in_err-placed-clause-fault
returns-in_err-placed-clause-fault c =
    let count = c.registers_of-count.result in
    let leads = read_more (counted_read c.in_ok-timings.ensures.ok)
    _ _ _ (rw c.leads_in.ensures.value at c.in_ok-leads.ensures.ok).read in
    let merged = read_more leads _ _ _ (counted_read c.in_ok-merged.ensures.ok) in
    let source = c.in_ok-source.ensures.ok.line.read c.args.rules.now.scale
    c.in_ok-source.ensures.ok.line.flawless in
    rw (sym c.registers_of-count.ensures.value) (passed_on _ _ _
    c.from_residual-in_err-placed.ensures.1 (stops_within _ _ _ _ refl _ merged (stop_after source
    (node_forms count) _ c.in_err-placed.ensures.fault)))

pub returns-in_err-total-clause-fault : goal.returns-in_err-total-clause-fault
returns-in_err-total-clause-fault c =
    let leads = read_more (counted_read c.in_ok-timings.ensures.ok)
    _ _ _ (rw c.leads_in.ensures.value at c.in_ok-leads.ensures.ok).read in
    let merged = read_more leads _ _ _ (counted_read c.in_ok-merged.ensures.ok) in
    let source = c.in_ok-source.ensures.ok.line.read c.args.rules.now.scale
    c.in_ok-source.ensures.ok.line.flawless in
    rw (sym c.registers_of-count.ensures.value) (passed_on _ _ _
    c.from_residual-in_err-total.ensures.1 (stop_after (read_more merged _ _ _ (read_more source _ _
    _ (counted_read c.in_ok-placed.ensures.ok))) (form.Total ∷ []) _ (stop_line
    c.args.rules.now.circuit.now c.args.rules.now.scale form.Total c.read_counted-3.new.cursor _
    c.in_err-total.ensures.fault)))

pub returns-clause-ok : goal.returns-clause-ok
returns-clause-ok c =
    let leads = rw c.leads_in.ensures.value at c.in_ok-leads.ensures.ok in
    rw (sym c.registers_of-count.ensures.value) (search (arith, leads))
