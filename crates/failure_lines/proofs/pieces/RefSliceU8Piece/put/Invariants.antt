use Rattle.std.proofs.Common.{take}
use Rattle.failure_lines.specs.Line.{Puts}
use Rattle.failure_lines.proofs.pieces.RefSliceU8Piece.put.Given as goal

-- the bytes before this one are put
abbrev pub invariant-loop-byte : goal.invariant-loop-byte
invariant-loop-byte g l = Puts (take l.byte-index l.self.now)
    (l.initial.line, g.E.Sink.written l.initial.err, g.E.Sink.faults l.initial.err)
    (l.line, g.E.Sink.written l.err, g.E.Sink.faults l.err)
