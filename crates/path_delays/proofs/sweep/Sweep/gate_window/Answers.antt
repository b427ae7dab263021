-- The gate's window is that of what it reads, moved by the gate's delay.
use Rattle.path_delays.proofs.Vocabulary.{◌+◌, ◌*◌, ◌^◌, Contains, Some, ap, subst, arith, same_Some, Window, IsWindowBelow}
use Rattle.path_delays.proofs.WindowLemmas.{extremes_below, gate_small}
use Rattle.path_delays.proofs.sweep.Sweep.gate_window.Goals as goal

pub returns-in_err-read-clause-suffix : goal.returns-in_err-read-clause-suffix
returns-in_err-read-clause-suffix c = grind (arith)

pub suffix-requires-clause-window : goal.suffix-requires-clause-window
suffix-requires-clause-window c =
    extremes_below c.args.windows.now (Contains c.as_slice.result.now) (2 * 10 ^ 19)
    c.in_ok-read.read c.in_ok-read.ensures c.requires.small

pub suffix-requires-clause-delay : goal.suffix-requires-clause-delay
suffix-requires-clause-delay c =
    rw c.gate_delay.ensures (gate_small c.args.self.now.tech.now c.args.gate.now c.requires.gate
    c.requires.valid_inputs)

pub returns-clause-suffix : goal.returns-clause-suffix
returns-clause-suffix c = record {
  read = Some c.in_ok-read.read;
  extremes = rw c.as_slice.ensures at c.in_ok-read.ensures;
  suffix = ap (λ (window : Window). Some window)
      (rw (c.gate_delay.ensures, c.args.self.now.den) at c.suffix.ensures.suffix);
}

pub returns-clause-small : goal.returns-clause-small
returns-clause-small c bound window below same =
    subst (IsWindowBelow (bound + 10 ^ 10)) (same_Some c.suffix.result window same)
    (c.suffix.ensures.small bound (extremes_below c.args.windows.now
    (Contains c.as_slice.result.now) bound c.in_ok-read.read c.in_ok-read.ensures below))
