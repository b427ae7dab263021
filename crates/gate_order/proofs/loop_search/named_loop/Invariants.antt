-- The walk so far; fewer signals are left unseen after each turn.
use Rattle.gate_order.proofs.Walks.{IsWalk, unseen}
use Rattle.gate_order.proofs.loop_search.named_loop.Given as goal

abbrev pub invariant-loop-seen : goal.invariant-loop-seen
invariant-loop-seen l = IsWalk l.circuit.signals l.waiting l.start l.path.items l.seen.items l.gate

abbrev pub decreases-loop-seen : goal.decreases-loop-seen
decreases-loop-seen l = unseen l.seen.items
