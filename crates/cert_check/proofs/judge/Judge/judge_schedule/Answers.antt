-- The slacks are those of the register.
use Rattle.cert_check.proofs.Vocabulary.{refl, arith, HasSlackRoom, Meets}
use Rattle.cert_check.proofs.FirstPlaces.{denied, each_more}
use Rattle.cert_check.proofs.SlackLemmas.{room_meets}
use Rattle.cert_check.proofs.judge.Judge.judge_schedule.Goals as goal

pub loop-register-preserved : goal.loop-register-preserved
loop-register-preserved c =
    let self = c.args.self.now in
    let own = c.item_at.result.now in
    let law = room_meets self.problem.now.circuit self.problem.now.tech self.report.now.period
    self.report.now.schedule.at c.loop-register.register own
    (c.requires.each c.loop-register.register own c.item_at.ensures) in
    each_more (Meets self) c.loop-register.register c.loop-register.invariant
    (law.0 (c.has_room.ensures.0 c.if-not-has_room.false))

pub returns-then-not-has_room : goal.returns-then-not-has_room
returns-then-not-has_room c =
    let self = c.args.self.now in
    let own = c.item_at.result.now in
    let law = room_meets self.problem.now.circuit self.problem.now.tech self.report.now.period
    self.report.now.schedule.at c.loop-register.register own
    (c.requires.each c.loop-register.register own c.item_at.ensures) in (
      c.loop-register.register,
      record {
        within = omega (arith, c.loop-register-test.true, c.requires.registers);
        fails = λ meets. denied (HasSlackRoom own) c.has_room.result c.has_room.ensures
            c.if-not-has_room.true (law.1 meets);
        before = c.loop-register.invariant;
      },
      refl,
    )
