-- There are few gates, and room for them.
use Rattle.path_delays.proofs.Vocabulary.{◌≤◌, length, arith, ap, ◌∙◌, limit_of}
use Rattle.path_delays.proofs.NetworkLemmas.{few_gates}
use Rattle.path_delays.proofs.Rooms.{HasReachRoom-made, delays_within, held_by_width}
use Rattle.path_delays.proofs.walk.Walk.new.Goals as goal

pub overflow_cast-gates : goal.overflow_cast-gates
overflow_cast-gates c = omega (
  arith,
  few_gates c.args.circuit.now c.args.levels.now c.requires,
  ap length c.gates.ensures,
)

pub is_short-requires : goal.is_short-requires
is_short-requires c = delays_within c.args.circuit.now c.args.tech.now c.in_ok-network.network
    c.in_ok-network.ensures.network

pub returns : goal.returns
returns c =
    let network = c.in_ok-network.network in
    let few : length network.order.items ≤ length c.gates.result.now =
    omega (arith, ap length c.in_ok-network.ensures.order, ap length c.gates.ensures) in
    let held = held_by_width c.args.circuit.now c.args.tech.now network
    c.in_ok-network.ensures.network c.is_short.result (limit_of c.in_ok-reach.reach)
    c.in_ok-reach.ensures.limit c.is_short.ensures in
    record {
      network = c.in_ok-network.ensures.network;
      room = HasReachRoom-made c.args.circuit.now c.args.tech.now network
          c.in_ok-network.ensures.network c.in_ok-reach.reach (length c.gates.result.now) few
          (c.in_ok-reach.ensures.lanes ∙ c.len-signals.ensures)
          (omega (arith, c.in_ok-reach.ensures.reached)) c.in_ok-reach.ensures.waiting
          (c.in_ok-reach.ensures.small (omega (
            arith,
            few_gates c.args.circuit.now c.args.levels.now c.requires,
            ap length c.gates.ensures,
          ))) held.0 held.1;
      captured = c.captured_top-top.ensures;
    }
