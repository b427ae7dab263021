-- So much is left after the delays passed so far.
use Rattle.path_delays.proofs.Vocabulary.{take}
use Rattle.path_delays.proofs.Rooms.{IsLeftAfter}
use Rattle.path_delays.proofs.network.Network.is_short.Given as goal

abbrev pub invariant-loop-delay : goal.invariant-loop-delay
invariant-loop-delay l = IsLeftAfter (take l.delay-index l.delay-items) l.left
