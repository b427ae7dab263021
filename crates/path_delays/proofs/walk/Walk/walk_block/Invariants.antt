-- The registers passed so far stand in their lanes.
use Rattle.std.proofs.Common.{◌≡◌, ◌<◌, ◌+◌, ℕ, length, get_or}
use Rattle.path_delays.proofs.walk.Walk.walk_block.Given as goal

abbrev pub invariant-loop-from : goal.invariant-loop-from
invariant-loop-from l = record {
  lanes : length l.registers ≡ 16;
  each : (lane : ℕ) → l.first + lane < l.from → get_or l.registers lane 0 ≡ l.first + lane;
}
