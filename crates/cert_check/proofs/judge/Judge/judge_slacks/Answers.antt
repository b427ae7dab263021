-- The slacks are those of the register, and so are the printed ones.
use Rattle.cert_check.proofs.Vocabulary.{refl, arith, AreOneSlack, Spares}
use Rattle.cert_check.proofs.FirstPlaces.{denied, each_more}
use Rattle.cert_check.proofs.SlackLemmas.{prints_slack}
use Rattle.cert_check.proofs.judge.Judge.judge_slacks.Goals as goal

pub loop-register-preserved : goal.loop-register-preserved
loop-register-preserved c =
    let self = c.args.self.now in
    let register = c.loop-register.register in
    let own = c.item_at.result.now in
    let law = prints_slack self.problem.now.circuit self.problem.now.tech self.report.now.period
    self.report.now.schedule.at register own (c.requires.each register own c.item_at.ensures)
    self.report.now.slacks c.item_at-printed.result.now
    (rw c.as_slice.ensures at c.item_at-printed.ensures) in
    each_more (Spares self) register c.loop-register.invariant
    (law.0 (c.are_one_slack.ensures.0 c.if-not-are_one_slack.false))

pub returns-then-not-are_one_slack : goal.returns-then-not-are_one_slack
returns-then-not-are_one_slack c =
    let self = c.args.self.now in
    let register = c.loop-register.register in
    let own = c.item_at.result.now in
    let printed = c.item_at-printed.result.now in
    let law = prints_slack self.problem.now.circuit self.problem.now.tech self.report.now.period
    self.report.now.schedule.at register own (c.requires.each register own c.item_at.ensures)
    self.report.now.slacks printed (rw c.as_slice.ensures at c.item_at-printed.ensures) in (
      register,
      record {
        within = omega (arith, c.loop-register-test.true, c.requires.registers);
        fails = λ spares. denied (AreOneSlack printed.setup own.setup
            × AreOneSlack printed.hold own.hold) c.are_one_slack.result c.are_one_slack.ensures
            c.if-not-are_one_slack.true (law.1 spares);
        before = c.loop-register.invariant;
      },
      refl,
    )
