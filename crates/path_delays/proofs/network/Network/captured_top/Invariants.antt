-- Nothing that the registers passed so far capture has a higher rank.
use Rattle.path_delays.proofs.Vocabulary.{◌<◌, ℕ, AreCapturedUpTo}
use Rattle.path_delays.proofs.network.Network.captured_top.Given as goal

abbrev pub invariant-loop-register : goal.invariant-loop-register
invariant-loop-register l = (register : ℕ) → register < l.register
    → AreCapturedUpTo l.circuit l.self register l.top
