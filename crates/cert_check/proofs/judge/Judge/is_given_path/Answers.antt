-- The constraint and the path stand at the place.
use Rattle.cert_check.proofs.Vocabulary.{◌≡◌, ◌<◌, ◌≤◌, ◌⊎◌, ◌↔◌, ℕ, [], All, IsTrue, Some, ap, length, subst, sym, ◌∙◌, IfSome, slice_get, IsBetweenRegisters}
use Rattle.cts_model.specs.Vocabulary.{GivesWeight}
use Rattle.cert_check.proofs.ConstraintTests.{pair_among}
use Rattle.cert_check.proofs.FirstPlaces.{at_place}
use Rattle.cert_check.proofs.judge.Judge.is_given_path.Goals as goal

pub invariant_of-shown : goal.invariant_of-shown
invariant_of-shown c =
    let self = c.args.self.now in
    let circuit = self.problem.now.circuit in
    let path = c.as_slice-2.result.now in
    let there = (rw c.as_slice.ensures at c.item_at.ensures)
    ∙ ap Some (sym c.as_slice-2.ensures) in
    let pair = pair_among (length circuit.registers) c.item_at-constraint.result.now
    (at_place (IsBetweenRegisters (length circuit.registers)) self.cycle.now c.args.place
    c.item_at-constraint.result.now self.among c.item_at-constraint.ensures) in
    record {
      pair = c.pair_of-from.ensures;
      launches = subst (λ (pair : ℕ × ℕ). pair.0 < length circuit.registers)
          (sym c.pair_of-from.ensures) pair.0;
      captures = subst (λ (pair : ℕ × ℕ). pair.1 < length circuit.registers)
          (sym c.pair_of-from.ensures) pair.1;
      numbers = at_place (All (λ number. number < length circuit.signals)) self.report.now.paths
          c.args.place path self.size.each_path there;
      short = at_place (λ shown. length shown ≤ 65536) self.report.now.paths c.args.place path
          self.paths there;
    }

pub returns : goal.returns
returns c =
    let problem = c.args.self.now.problem.now in
    let paths = c.args.self.now.report.now.paths in
    let place = c.args.place in
    let test = c.is_given.result in
    let there = (rw c.as_slice.ensures at c.item_at.ensures)
    ∙ ap Some (sym c.as_slice-2.ensures) in
    subst (λ found. IsTrue test ↔ IfSome found (λ constraint. IfSome (slice_get paths place)
    (λ path. (path ≡ []) ⊎ GivesWeight problem.circuit problem.tech constraint path)))
    (sym c.item_at-constraint.ensures)
    (subst (λ found. IsTrue test ↔ IfSome found
    (λ path. (path ≡ []) ⊎ GivesWeight problem.circuit problem.tech c.item_at-constraint.result.now
    path))
    (sym there) c.is_given.ensures)
