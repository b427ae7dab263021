use Rattle.topology.proofs.Vocabulary.{heap_items, map, arith, rules, MatchOption-at_some}
use Rattle.topology.proofs.QueueLemmas.{pair_in, put_none, put_pair, taken_from}
use Rattle.topology.proofs.queue.Queue.replace_first.Goals as goal

pub returns-in-Some : goal.returns-in-Some
returns-in-Some c =
    let top = c.unwrap-top.result in
    let rest = MatchOption-at_some _ _ top c.unwrap-top.ensures c.peek_mut.ensures.rest in
    let moved = c.drop-top.ensures.permutation (search rules) in
    let done = put_pair c.args.self.now (heap_items c.self.inside.heap) _ _
    (record { 0 = c.in-Some.pair }) c.self.view_is c.requires rest moved in
    search rules

pub returns-in-None : goal.returns-in-None
returns-in-None c = rw c.in-None.is
    (put_none c.args.self.now (map pair_in (heap_items c.pop.new.self))
    (taken_from c.args.self.now (heap_items c.self.inside.heap) (heap_items c.pop.new.self)
    c.pop.result c.self.view_is c.requires
    (λ some. c.pop.ensures.variant.1 (omega (arith, some, c.self.inside.heap.data.ok.0)))
    c.pop.ensures.top c.pop.ensures.permutation))
