use Rattle.std.proofs.Common.{◌≡◌, length}
use Rattle.std.specs.Io.KnownBytes.{Keeps}
use Rattle.cts_io.specs.Stream.{AreInterrupted}
use Rattle.cts_io.proofs.stream.read_next.Given as goal

abbrev pub invariant-loop-try : goal.invariant-loop-try
invariant-loop-try g l = (length l.into ≡ length l.initial.into)
    × Keeps (g.R.ByteReader.remaining l.initial.stream) (g.R.ByteReader.remaining l.stream)
    × AreInterrupted g.R.ByteReader.reads l._try (l.initial.stream, l.initial.into)
    (l.stream, l.into)
