-- One sink more.
use Rattle.cert_check.proofs.Vocabulary.{refl, StandsAt, tree_of}
use Rattle.cert_check.proofs.FirstPlaces.{each_more, fails_here}
use Rattle.cert_check.proofs.ShapeLemmas.{stands_by}
use Rattle.cert_check.proofs.judge.Judge.judge_sinks.Goals as goal

pub loop-register-preserved : goal.loop-register-preserved
loop-register-preserved c =
    let self = c.args.self.now in
    let register = c.loop-register.register in
    each_more (StandsAt self.sinks.now (tree_of self)) register c.loop-register.invariant
    ((stands_by self.sinks.now (tree_of self) register _ c.stands.result
    c.loop-register-test.true c.stands.ensures).0 c.if-not-stands.false)

pub returns-then-not-stands : goal.returns-then-not-stands
returns-then-not-stands c =
    let self = c.args.self.now in
    let register = c.loop-register.register in (
      register,
      fails_here _ (StandsAt self.sinks.now (tree_of self)) register c.stands.result
          c.loop-register-test.true c.loop-register.invariant
          (stands_by self.sinks.now (tree_of self) register _ c.stands.result
          c.loop-register-test.true c.stands.ensures) c.if-not-stands.true,
      refl,
    )
