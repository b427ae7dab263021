use Rattle.std.proofs.Common.{◌≡◌, ℕ, List, ◌-◌, length}
use Rattle.relaxation.proofs.SettleLemmas.{IsSettling}
use Rattle.relaxation.proofs.relaxation.Relaxation.satisfy.Given as goal

abbrev pub invariant-loop-gains : goal.invariant-loop-gains
invariant-loop-gains l = (parents : List ℕ)
    × IsSettling l.initial.self.constraints.now l.gains l.before l.initial.self.values.items
    l.self.values.items parents × (l.self.constraints.now ≡ l.initial.self.constraints.now)

abbrev pub decreases-loop-gains : goal.decreases-loop-gains
decreases-loop-gains l = length l.initial.self.values.items - l.before
