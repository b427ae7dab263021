use Rattle.std.proofs.Common.{length}
use Rattle.cert_check.proofs.drawn.+are_straight.Given as goal

abbrev pub decreases-are_straight : goal.decreases-are_straight
decreases-are_straight l = length l.points.now
