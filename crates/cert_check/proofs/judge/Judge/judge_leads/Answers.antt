-- The test of a tight lead is that of its constraint.
use Rattle.cert_check.proofs.Vocabulary.{◌↔◌, ◌∷◌, [], All, IsTrue, length, take, get_or, rules, ap, subst, sym, ◌∙◌, arith, length-append, Zero, IsOfCircuit, IsBetweenRegisters, Earliest, tight_constraints}
use Rattle.cert_check.proofs.FirstPlaces.{denied, each_more}
use Rattle.cert_check.proofs.JudgeFacts.{listed_count, listed_second, second_count}
use Rattle.cert_check.proofs.TightLemmas.{tight_among, tight_more, tight_tested}
use Rattle.cert_check.proofs.judge.Judge.judge_leads.Goals as goal

pub delays_of-requires-clause-among : goal.delays_of-requires-clause-among
delays_of-requires-clause-among c =
    let self = c.args.self.now in
    let registers = length self.problem.now.circuit.registers in
    subst (All (IsBetweenRegisters registers))
    (sym (c.as_slice.ensures.value ∙ c.in_ok-constraints.ensures
    ∙ ap tight_constraints c.as_slice-leads.ensures))
    (tight_among registers self.report.now.leads self.size.each_lead)

pub is_earliest-requires-clause-given : goal.is_earliest-requires-clause-given
is_earliest-requires-clause-given c =
    let problem = c.args.self.now.problem.now in
    let leads = c.args.self.now.report.now.leads in
    let test = c.is_given-given.result in
    tight_tested problem.circuit problem.tech leads c.loop-register.register
    (rw c.as_slice-leads.ensures at c.loop-register-test.true) test
    (subst (λ place. IsTrue test ↔ IsOfCircuit problem.circuit problem.tech
    (tight_constraints leads) place) c.loop-register.invariant.passed
    (subst (λ constraints. IsTrue test ↔ IsOfCircuit problem.circuit problem.tech constraints
    c.loop-register.tight)
    (c.as_slice-in-loop-register.ensures.value ∙ c.in_ok-constraints.ensures
    ∙ ap tight_constraints c.as_slice-leads.ensures) c.is_given-given.ensures))

pub loop-register-init : goal.loop-register-init
loop-register-init c = search arith

pub loop-register-preserved : goal.loop-register-preserved
loop-register-preserved c =
    let leads = c.args.self.now.report.now.leads in
    let register = c.loop-register.register in
    let before = c.loop-register.invariant in
    let low = rw c.as_slice-leads.ensures at c.loop-register-test.true in
    let count = rw c.as_slice-leads.ensures at c.constraint_count-tight.ensures.value in
    let more = ap length (tight_more leads register Zero low) in
    record {
      passed = omega (
        arith,
        before.passed,
        count,
        more,
        length-append (tight_constraints (take register leads))
            (tight_constraints (get_or leads register Zero ∷ [])),
      );
      few = omega (arith, before.few, c.constraint_count-tight.ensures.small);
      each = each_more (Earliest c.args.self.now) register before.each
          (c.is_earliest.ensures.0 c.if-not-is_earliest.false);
    }

pub returns-then-is_empty : goal.returns-then-is_empty
returns-then-is_empty c place within second = search (arith, rules, second_count)

pub returns-then-not-is_earliest : goal.returns-then-not-is_earliest
returns-then-not-is_earliest c = search (arith, listed_second, listed_count, denied)

pub returns : goal.returns
returns c place within second = search (arith, second_count)
