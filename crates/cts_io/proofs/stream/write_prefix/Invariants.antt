use Rattle.std.specs.Io.KnownBytes.{Keeps}
use Rattle.cts_io.specs.Stream.{AreInterrupted}
use Rattle.cts_io.proofs.stream.write_prefix.Given as goal

abbrev pub invariant-loop-try : goal.invariant-loop-try
invariant-loop-try g l =
    Keeps (g.W.ByteWriter.contents l.initial.stream) (g.W.ByteWriter.contents l.stream)
    × AreInterrupted (g.W.ByteWriter.writes l.piece) l._try l.initial.stream l.stream
