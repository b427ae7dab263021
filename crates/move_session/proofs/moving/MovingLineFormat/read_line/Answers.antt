use Rattle.std.proofs.Common.{◌<◌, length, refl, sym, ◌∙◌, arith}
use Rattle.move_session.proofs.TakenLines.{move_flawless, move_taken}
use Rattle.move_session.proofs.moving.MovingLineFormat.read_line.Goals as goal

pub returns-clause-flawless : goal.returns-clause-flawless
returns-clause-flawless c start earlier has number =
    let read = sym c.words-words.ensures ∙ c.in-Some.ensures.steps in
    let room : length c.args.self.now.moves < 10000 =
    omega (arith, c.if-len-ge-MAX_MOVES.false, c.len.ensures) in (
      move_flawless start c.args.self.now earlier c.args.line.text.now c.in-Some.name.now
          c.next.new.self c.args.line.number c.in_ok-next.next has number read
          c.in_ok-next.ensures room,
      move_taken start c.args.self.now earlier c.args.line.text.now c.in-Some.name.now
          c.next.new.self c.args.line.number c.in_ok-next.next has number read
          c.in_ok-next.ensures _ refl c.in_ok-push.ensures.ok,
    )
