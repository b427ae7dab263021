use Rattle.topology.proofs.Vocabulary.{heap_items, subst, IsBefore}
use Rattle.std.proofs.Common.{All}
use Rattle.topology.proofs.QueueLemmas.{least_on_top}
use Rattle.topology.proofs.queue.Queue.first.Goals as goal

pub returns-in-Some-clause-least : goal.returns-in-Some-clause-least
returns-in-Some-clause-least c =
    subst (All (λ other. ¬ IsBefore other c.in-Some.field-0.now.0)) c.self.view_is
    (least_on_top (heap_items c.self.inside.heap) c.in-Some.field-0.now
    (c.in-Some.ensures.greatest c.self.inside.ordered))
