use Rattle.path_delays.proofs.WalkStarts.{IsSpread-none}
use Rattle.path_delays.proofs.reach.Reach.launch_all.Goals as goal

pub loop-lane-init : goal.loop-lane-init
loop-lane-init c = record {
  spread = IsSpread-none c.args.from.now.circuit.now c.args.from.now.tech.now c.args.network.now
      c.requires.network c.args.from.now.registers.now c.args.self.now c.requires.clear;
  room = c.requires.room;
}
