use Rattle.bench_reader.proofs.Vocabulary.{[], sym, refl, ◌∙◌, Blank, Input, Output, Assign}
use Rattle.cts_model.specs.declared.kind.Kind.TheVariants as kinds
use Rattle.bench_reader.proofs.DefiningLines.{silent_adds, defining_adds}
use Rattle.bench_reader.proofs.definitions.Definitions.add.Goals as goal

pub returns-in-Blank : goal.returns-in-Blank
returns-in-Blank c earlier line form has number =
    silent_adds earlier line Blank (rw c.in-Blank.is at form) refl refl refl c.args.self.now has

pub returns-in-Output : goal.returns-in-Output
returns-in-Output c earlier line form has number =
    let name = c.in-Output.field-0.now in
    let short = rw c.in-Output.is at c.has_short_names-short.ensures in
    silent_adds earlier line (Output name) (rw c.in-Output.is at form)
    refl refl (sym short ∙ c.if-short.true) c.args.self.now has

pub returns-in-Input : goal.returns-in-Input
returns-in-Input c earlier line form =
    let name = c.in-Input.name.now in
    let short = rw c.in-Input.is at c.has_short_names-short.ensures in
    defining_adds earlier line (Input name) (rw c.in-Input.is at form)
    (record { name = name; kind = kinds.Input; inputs = [] }) refl refl refl
    c.args.number c.define.new.self c.define.result (rw short at c.define.ensures)

pub returns-else-not-may_have : goal.returns-else-not-may_have
returns-else-not-may_have c earlier line form =
    let name = c.in-Assign.name.now in
    let word = c.in-Assign.word.now in
    let short = rw c.in-Assign.is at c.has_short_names-short.ensures in
    let kind = sym c.in-Some.ensures in
    let valid_inputs =
    rw c.len-count.ensures at (sym c.may_have.ensures ∙ c.if-not-may_have.false) in
    let judged = rw (short, c.len-count.ensures) at c.define-in-Assign.ensures in
    defining_adds earlier line (Assign name word c.in-Assign.inputs) (rw c.in-Assign.is at form)
    (record { name = name; kind = c.in-Some.kind; inputs = c.in-Assign.inputs })
    (rw kind refl)
    (rw kind refl) valid_inputs c.args.number c.define-in-Assign.new.self
    c.define-in-Assign.result judged
