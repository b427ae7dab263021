-- The numbers of registers are those of signals.
use Rattle.std.proofs.lemmas.Option.{slice_get_within}
use Rattle.cts_model.proofs.CircuitLemmas.{registered, register_signal_is}
use Rattle.cts_model.proofs.circuit.Circuit.register_signal.Goals as goal

pub bounds-as_slice-number : goal.bounds-as_slice-number
bounds-as_slice-number c =
    let at = registered c.args.self.now c.args.register c.requires in
    rw (c.as_slice.ensures, c.as_slice-2.ensures) (slice_get_within _ _ at.signal at.here)

pub returns : goal.returns
returns c =
    register_signal_is c.args.self.now c.args.register c.requires c.index-as_slice-number.result
    (rw (c.as_slice-2.ensures, c.as_slice.ensures) at c.index-as_slice-number.is)
