use Rattle.cts_program.proofs.Vocabulary.{◌≡◌, ◌∙◌, pos, take, get_or, to_z, of_z, refl, sym, subst, arith, w128, ints, take_all, take_more, Move, IsSessionOf, AppendsWire}
use Rattle.cts_program.proofs.WireTexts.{AreWritten, session_stands, wires_first, wires_next, wires_text}
use Rattle.cts_program.proofs.moves.wires.Goals as goal

-- what stands where no move does
nowhere : Move
nowhere = record { register = 0; at = record { x = pos 0; y = pos 0 } }

pub move_register-requires-clause-register : goal.move_register-requires-clause-register
unfolding nowhere
move_register-requires-clause-register c =
    let near = c.requires.moves c.loop-next.next-index nowhere c.loop-next-test.true in
    omega (arith, near.within, c.loop-next.invariant.count)

pub move_register-requires-clause-near : goal.move_register-requires-clause-near
unfolding nowhere
move_register-requires-clause-near c =
    (c.requires.moves c.loop-next.next-index nowhere c.loop-next-test.true).near

pub loop-next-init : goal.loop-next-init
loop-next-init c = record {
  count = refl;
  written = λ problem made.
      let grid = to_z w128 (of_z w128 c.args.grid) in
      let session = c.args.session in
      let text = c.push_wire.new.out.items in
      wires_first problem made.period made.schedule session.merges grid session text
      (session_stands problem session grid made)
      (subst (λ old. AppendsWire session grid old text) c.new-text.ensures.items
      c.in_ok-push_wire.ensures);
}

pub loop-next-preserved : goal.loop-next-preserved
unfolding nowhere
loop-next-preserved c = record {
  count = c.move_register.ensures.count ∙ c.loop-next.invariant.count;
  written = λ problem made.
      let grid = to_z w128 (of_z w128 c.args.grid) in
      let merges = c.args.session.merges in
      let moves = c.args.moves.now in
      let index = c.loop-next.next-index in
      let now = c.push_wire-in-loop-next.new.out.items in
      let moved = c.move_register.new.session in
      subst (λ done. AreWritten problem made.period made.schedule merges grid done moved now)
      (sym (take_more moves index nowhere c.loop-next-test.true))
      (wires_next problem made.period made.schedule merges grid (take index moves)
      (get_or moves index nowhere) c.loop-next.session moved c.loop-next.text.items now
      (c.loop-next.invariant.written problem made)
      (λ places. c.move_register.ensures.stands problem made.period made.schedule merges places)
      c.in_ok-push_wire-2.ensures);
}

pub returns : goal.returns
returns c problem made =
    let kept = to_z w128 (of_z w128 c.args.grid) in
    let same : kept ≡ c.args.grid = omega (arith, ints, c.requires.grid.within) in
    let session = c.args.session in
    let last = c.loop-next.session in
    let text = c.loop-next.text.items in
    let here : IsSessionOf problem session kept =
    subst (IsSessionOf problem session) (sym same) made
    in
    wires_text problem session kept here c.args.moves.now last text
    (subst (λ done. AreWritten problem here.period here.schedule session.merges kept done last text)
    (take_all c.loop-next.next-index c.args.moves.now (omega (arith, c.loop-next-test.false)))
    (c.loop-next.invariant.written problem here))
