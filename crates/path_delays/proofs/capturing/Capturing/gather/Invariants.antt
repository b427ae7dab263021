-- The registers of the signals below the next one are gathered.
use Rattle.std.proofs.Common.{◌-◌, ◌*◌, length}
use Rattle.path_delays.proofs.CapturingLemmas.{IsGathering}
use Rattle.path_delays.proofs.capturing.Capturing.gather.Given as goal

abbrev pub invariant-loop-signal : goal.invariant-loop-signal
invariant-loop-signal l = IsGathering l.walk l.initial.self l.self l.next

abbrev pub decreases-loop-signal : goal.decreases-loop-signal
decreases-loop-signal l = 64 * length l.self.reached.words.items - l.next
