use Rattle.std.proofs.Common.{take}
use Rattle.std.specs.List.{flat_map}
use Rattle.failure_lines.specs.Line.{Puts}
use Rattle.failure_lines.proofs.pieces.put_each.Given as goal

-- the pieces before this one are put
abbrev pub invariant-loop-piece : goal.invariant-loop-piece
invariant-loop-piece g l = Puts (flat_map g.P.Piece.text (take l.piece-index l.pieces))
    (l.initial.line, g.E.Sink.written l.initial.err, g.E.Sink.faults l.initial.err)
    (l.line, g.E.Sink.written l.err, g.E.Sink.faults l.err)
