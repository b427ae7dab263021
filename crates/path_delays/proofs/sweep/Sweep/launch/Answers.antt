-- One signal more, and all of them.
use Rattle.path_delays.proofs.Vocabulary.{◌≡◌, length, take, subst, arith, AreSwept, BegunTo, NoneHanded}
use Rattle.path_delays.proofs.LaunchLemmas.{all_within}
use Rattle.path_delays.proofs.SweepLemmas.{begun_all, begun_next, begun_none}
use Rattle.path_delays.proofs.sweep.Sweep.launch.Goals as goal

pub loop-signal-init : goal.loop-signal-init
loop-signal-init c = grind (arith, begun_none)

pub put-requires : goal.put-requires
put-requires c = omega (
  arith,
  all_within c.args.self.now.circuit.now c.args.from c.launched-signal-items.result.now
      c.launched-signal-items.ensures c.loop-signal.signal-index 0 c.loop-signal-test.true,
  c.loop-signal.invariant.covers,
)

pub loop-signal-preserved : goal.loop-signal-preserved
loop-signal-preserved c =
    let launched = c.launched-signal-items.result.now in
    let place = c.loop-signal.signal-index in
    begun_next c.args.self.now.circuit.now c.args.self.now.tech.now c.args.self.now.schedule.now
    c.args.from launched c.launched-signal-items.ensures place c.loop-signal.windows.items
    c.put.new.windows.items c.requires.from c.loop-signal-test.true
    (omega (
      arith,
      all_within c.args.self.now.circuit.now c.args.from launched c.launched-signal-items.ensures
          place 0 c.loop-signal-test.true,
      c.loop-signal.invariant.covers,
    ))
    (rw c.started-window.ensures.started at c.started-window.ensures.small)
    (rw c.started-window.ensures.started at c.put.ensures) c.loop-signal.invariant

pub returns : goal.returns
returns c =
    let launched = c.launched-signal-items.result.now in
    let all : c.loop-signal.signal-index ≡ length launched = omega arith in
    begun_all c.args.self.now.circuit.now c.args.self.now.tech.now c.args.self.now.schedule.now
    c.args.from launched c.launched-signal-items.ensures c.loop-signal.windows.items
    (subst (λ n. AreSwept c.args.self.now.circuit.now c.args.self.now.tech.now
    c.args.self.now.schedule.now 0 (BegunTo c.args.self.now.circuit.now c.args.self.now.tech.now
    c.args.self.now.schedule.now c.args.from (take n launched)) NoneHanded
    c.loop-signal.windows.items) all c.loop-signal.invariant)
