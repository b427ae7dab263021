use Rattle.std.proofs.Common.{◌≡◌, length, arith}
use Rattle.gate_order.proofs.IdleGates.{AreIdleGates-none, AreIdleGates-more}
use Rattle.gate_order.proofs.sorting.idle_gates.Goals as goal

pub loop-number-init : goal.loop-number-init
loop-number-init c =
    rw c.new-order.ensures.items (AreIdleGates-none c.args.circuit.now.signals c.args.waiting.now)

pub loop-number-preserved : goal.loop-number-preserved
loop-number-preserved c =
    rw c.in_ok-push_idle.ensures (AreIdleGates-more c.args.circuit.now.signals c.args.waiting.now
    c.loop-number.number c.loop-number.order.items c.loop-number.invariant)

pub returns : goal.returns
returns c =
    let all : c.loop-number.number ≡ length c.args.waiting.now = omega arith in
    rw all at c.loop-number.invariant
