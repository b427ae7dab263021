use Rattle.gate_order.proofs.FirstWaiting.{all_idle, first_waits}
use Rattle.gate_order.proofs.TopologicalOrders.{no_loop}
use Rattle.gate_order.proofs.order.levels.Goals as goal

pub returns-in-None-clause-order : goal.returns-in-None-clause-order
returns-in-None-clause-order c =
    rw c.from_vec.ensures
    (c.in_ok-waiting.ensures.complete (all_idle c.in_ok-waiting.field-0.waiting.items
    (rw c.as_slice.ensures.value at c.in-None.ensures)))

pub returns-in-None-clause-acyclic : goal.returns-in-None-clause-acyclic
returns-in-None-clause-acyclic c =
    no_loop c.args.circuit.now.signals c.in_ok-waiting.field-0.order.items
    (c.in_ok-waiting.ensures.complete (all_idle c.in_ok-waiting.field-0.waiting.items
    (rw c.as_slice.ensures.value at c.in-None.ensures)))

pub named_loop-requires-clause-start : goal.named_loop-requires-clause-start
named_loop-requires-clause-start c =
    rw c.as_slice-in-Some.ensures.value (first_waits c.in_ok-waiting.field-0.waiting.items
    c.in-Some.start (rw c.as_slice.ensures.value at c.in-Some.ensures))
