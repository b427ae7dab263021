-- One gate more.
use Rattle.path_delays.proofs.Vocabulary.{◌*◌, ◌^◌, get_or, subst, arith, IsWindowBelow, window_limit}
use Rattle.path_delays.proofs.NetworkLemmas.{few_gates}
use Rattle.path_delays.proofs.WindowLemmas.{below_wider}
use Rattle.path_delays.proofs.SweepLemmas.{passed_none, passed_next, next_within, next_read}
use Rattle.path_delays.proofs.sweep.Sweep.pass_gates.Goals as goal

pub loop-gate-init : goal.loop-gate-init
loop-gate-init c = grind (arith, passed_none)

pub bounds-as_slice-gate : goal.bounds-as_slice-gate
bounds-as_slice-gate c = grind (arith, next_within)

pub gate_window-window-requires : goal.gate_window-window-requires
gate_window-window-requires c =
    let circuit = c.args.self.now.circuit.now in
    let levels = c.args.levels.now in
    let read = next_read circuit levels c.gates-gate-items.result.now c.as_slice.result.now
    c.loop-gate.gate-index c.index-as_slice-gate.result c.requires.levels
    c.gates-gate-items.ensures c.as_slice.ensures c.loop-gate-test.true
    c.index-as_slice-gate.is in
    record {
      gate = read.is_one;
      valid_inputs = read.valid_inputs;
      reads = λ k d within. rw c.as_slice-in-loop-gate.ensures.value
          (omega (arith, read.reads k d within, c.loop-gate.invariant.covers));
      small = λ signal window here.
          let low = rw c.gates-gate-items.ensures at c.loop-gate-test.true in
          below_wider (window_limit c.loop-gate.gate-index) (2 * 10 ^ 19) window
          (omega (arith, low, few_gates circuit levels c.requires.levels))
          (c.loop-gate.invariant.small signal window
          (rw c.as_slice-in-loop-gate.ensures.value at here));
    }

pub put-requires : goal.put-requires
put-requires c = grind (arith, next_within)

pub loop-gate-preserved : goal.loop-gate-preserved
loop-gate-preserved c =
    let place = c.loop-gate.gate-index in
    let gate = get_or c.gates-gate-items.result.now place 0 in
    let read = next_read c.args.self.now.circuit.now c.args.levels.now c.gates-gate-items.result.now
    c.as_slice.result.now c.loop-gate.gate-index c.index-as_slice-gate.result c.requires.levels
    c.gates-gate-items.ensures c.as_slice.ensures c.loop-gate-test.true c.index-as_slice-gate.is in
    passed_next c.args.self.now.circuit.now c.args.self.now.tech.now c.args.self.now.schedule.now
    gate c.index-as_slice-gate.result read.here read.is_one c.args.levels.now place
    c.requires.levels read.stands c.loop-gate.windows.items c.put.new.windows.items
    c.gate_window-window.result (rw c.as_slice-in-loop-gate.ensures.value at
    c.gate_window-window.ensures.suffix) (λ window same. subst (λ n. IsWindowBelow n window)
    (omega arith) (c.gate_window-window.ensures.small (window_limit place) window
    (rw c.as_slice-in-loop-gate.ensures.value c.loop-gate.invariant.small) same))
    c.put.ensures c.loop-gate.invariant

pub returns : goal.returns
returns c = grind (arith)
