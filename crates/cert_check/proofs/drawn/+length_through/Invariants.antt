use Rattle.std.proofs.Common.{length}
use Rattle.cert_check.proofs.drawn.+length_through.Given as goal

abbrev pub decreases-length_through : goal.decreases-length_through
decreases-length_through l = length l.points.now
