use Rattle.std.proofs.Common.{length}
use Rattle.cert_check.proofs.drawn.+is_apart_from_all.Given as goal

abbrev pub decreases-is_apart_from_all : goal.decreases-is_apart_from_all
decreases-is_apart_from_all l = length l.points.now
