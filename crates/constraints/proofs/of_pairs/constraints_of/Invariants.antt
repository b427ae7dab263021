use Rattle.std.proofs.Common.{◌≡◌, take}
use Rattle.constraints.specs.PairConstraints.{constraints_of_pairs}
use Rattle.constraints.proofs.of_pairs.constraints_of.Given as goal

abbrev pub invariant-loop-pair : goal.invariant-loop-pair
invariant-loop-pair l =
    l.constraints.items ≡ constraints_of_pairs l.tech (take l.pair-index l.pair-items)
