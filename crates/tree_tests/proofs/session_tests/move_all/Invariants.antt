use Rattle.std.proofs.Common.{◌≡◌, length}
use Rattle.tree_tests.proofs.session_tests.move_all.Given as goal

abbrev pub invariant-loop-to : goal.invariant-loop-to
invariant-loop-to g l = length l.session.sinks ≡ l.sinks
