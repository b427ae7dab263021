use Rattle.cts_io.specs.Stream.{AreInterrupted}
use Rattle.cts_io.proofs.opener.open_file.Given as goal

abbrev pub invariant-loop-try : goal.invariant-loop-try
invariant-loop-try g l =
    AreInterrupted (g.O.FileOpener.opens l.name) l._try l.initial.opener l.opener
