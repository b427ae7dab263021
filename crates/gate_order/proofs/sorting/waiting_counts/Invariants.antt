use Rattle.std.proofs.Common.{◌≡◌, ℕ, length, take}
use Rattle.gate_order.proofs.Tallies.{AreCounts}
use Rattle.gate_order.proofs.sorting.waiting_counts.Given as goal

abbrev pub invariant-loop-pair : goal.invariant-loop-pair
invariant-loop-pair l = (length l.counts.items ≡ l.signals)
    × AreCounts (λ (pair : ℕ × ℕ). pair.1) (take l.pair-index l.pairs) l.counts.items
