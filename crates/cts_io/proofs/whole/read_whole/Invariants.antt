use Rattle.std.proofs.Common.{◌≡◌, ◌≤◌, ◌-◌, List, ℕ, ◌++◌, vec_len, Some}
use Rattle.cts_io.proofs.whole.read_whole.Given as goal

abbrev pub invariant-loop-taken : goal.invariant-loop-taken
invariant-loop-taken g l = record {
  within : vec_len l.bytes ≤ l.limit;
  denoted : (held : List ℕ) → g.I.Inputs.holds l.fn.inputs l.name ≡ Some held
      → (rest : List ℕ) × (g.I.Inputs.left l.inputs ≡ Some rest) × (held ≡ l.bytes.items ++ rest);
  files : (file : List ℕ) → g.I.Inputs.holds l.inputs file ≡ g.I.Inputs.holds l.fn.inputs file;
  stays : (file : List ℕ) → g.I.Inputs.faults l.inputs file ≡ g.I.Inputs.faults l.fn.inputs file;
}

abbrev pub decreases-loop-taken : goal.decreases-loop-taken
decreases-loop-taken g l = l.limit - vec_len l.bytes
