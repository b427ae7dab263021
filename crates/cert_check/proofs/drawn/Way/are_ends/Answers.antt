use Rattle.std.proofs.Common.{refl}
use Rattle.cert_check.proofs.WayLemmas.{ends_by_points, not_ends_by_points}
use Rattle.cert_check.proofs.drawn.Way.are_ends.Goals as goal

pub returns-then-is_same : goal.returns-then-is_same
returns-then-is_same c = ends_by_points c.args.from c.args.to c.args.self.now.points.now
    c.args.self.now.some (c.if-is_same.ensures.0 refl) c.is_same-then-is_same.result
    c.is_same-then-is_same.ensures

pub returns-else-is_same : goal.returns-else-is_same
returns-else-is_same c = not_ends_by_points c.args.from c.args.to c.args.self.now.points.now
    c.args.self.now.some c.is_same.result c.is_same.ensures c.if-is_same.false
