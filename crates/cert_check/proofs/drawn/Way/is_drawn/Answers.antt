use Rattle.cert_check.proofs.Vocabulary.{refl, w128, to_z-of_z}
use Rattle.cert_check.proofs.WayLemmas.{drawn_exactly}
use Rattle.cert_check.proofs.drawn.Way.is_drawn.Goals as goal

pub returns-then-are_ends : goal.returns-then-are_ends
returns-then-are_ends c = drawn_exactly c.args.from c.args.to c.args.long c.args.self.now.points.now
    c.args.self.now.some c.args.self.now.few (c.if-are_ends.ensures.0 refl) c.is_way.result
    (rw (to_z-of_z w128 c.args.long c.ranges.long) at c.is_way.ensures)
