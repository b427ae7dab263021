-- One constraint more.
use Rattle.cert_check.proofs.Vocabulary.{◌<◌, rules, IsTrue, length, refl, arith, Together}
use Rattle.cert_check.proofs.FirstPlaces.{at_place, fails_here}
use Rattle.cert_check.proofs.TailLemmas.{walked_next}
use Rattle.cert_check.proofs.judge.Judge.judge_joins.Goals as goal

pub holds_together-requires-clause-tails : goal.holds_together-requires-clause-tails
holds_together-requires-clause-tails c place default within = search arith

pub loop-place-preserved : goal.loop-place-preserved
loop-place-preserved c =
    let self = c.args.self.now in
    let registers = length self.problem.now.circuit.registers in
    let holds : IsTrue c.holds_together.result = search rules in
    walked_next registers self.cycle.now c.loop-place.place c.loop-place.seen.items
    c.item_at.result.now c.item_at.ensures
    (at_place (λ constraint. constraint.tail < registers) self.cycle.now c.loop-place.place
    c.item_at.result.now
    (λ place default within. (self.among place default within).tail)
    c.item_at.ensures) c.loop-place.invariant (c.holds_together.ensures.0 holds)

pub returns-then-not-holds_together : goal.returns-then-not-holds_together
returns-then-not-holds_together c = (
  c.loop-place.place,
  fails_here _ (Together c.args.self.now) c.loop-place.place c.holds_together.result
      c.loop-place-test.true c.loop-place.invariant.before c.holds_together.ensures
      c.if-not-holds_together.true,
  refl,
)
