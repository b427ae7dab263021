use Rattle.std.proofs.Common.{◌≡◌, ◌-◌, length}
use Rattle.relaxation.proofs.SettleLemmas.{IsSettling}
use Rattle.relaxation.proofs.relaxation.Relaxation.settle.Given as goal

abbrev pub invariant-loop-changed : goal.invariant-loop-changed
invariant-loop-changed l = IsSettling l.initial.self.constraints.now l.gains l.sweeps
    l.initial.self.values.items
    l.self.values.items l.self.parents.items
    × (length l.self.parents.items ≡ length l.initial.self.parents.items)
    × (l.self.constraints.now ≡ l.initial.self.constraints.now)

abbrev pub decreases-loop-changed : goal.decreases-loop-changed
decreases-loop-changed l = length l.initial.self.values.items - l.sweeps
