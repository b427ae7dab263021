-- The climb so far; fewer numbers are left below the node's after each edge.
use Rattle.std.proofs.Common.{◌-◌}
use Rattle.cert_check.proofs.ClimbLemmas.{IsClimb}
use Rattle.cert_check.proofs.shaped.ShapedTree.has_below.Given as goal

abbrev pub invariant-loop-at : goal.invariant-loop-at
invariant-loop-at l = IsClimb l.self.are.topology l.register l.node l.at

abbrev pub decreases-loop-at : goal.decreases-loop-at
decreases-loop-at l = l.node - l.at
