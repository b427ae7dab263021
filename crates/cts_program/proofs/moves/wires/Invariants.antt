use Rattle.cts_program.proofs.Vocabulary.{◌≡◌, length, take, Problem, IsSessionOf}
use Rattle.cts_program.proofs.WireTexts.{AreWritten}
use Rattle.cts_program.proofs.moves.wires.Given as goal

-- the moves so far, and the lines after them
abbrev pub invariant-loop-next : goal.invariant-loop-next
invariant-loop-next l = record {
  count : length l.session.sinks ≡ length l.fn.session.sinks;
  written : (problem : Problem) (made : IsSessionOf problem l.fn.session l.grid)
      → AreWritten problem made.period made.schedule l.fn.session.merges l.grid
      (take l.next-index l.moves) l.session l.text.items;
}
