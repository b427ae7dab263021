-- The walk goes on by an input that waits; a gate that comes again closes the ring.
use Rattle.gate_order.proofs.Vocabulary.{◌≡◌, ◌∙◌, arith, with_items_is}
use Rattle.gate_order.proofs.Walks.{mark_is, comes_again, walk_next, named_ring}
use Rattle.gate_order.proofs.loop_search.named_loop.Goals as goal

pub loop-seen-preserved : goal.loop-seen-preserved
loop-seen-preserved c =
    let new =
    mark_is c.loop-seen.invariant c.index.result.now _ c.index.ensures c.loop-seen-test.true in
    rw c.in_ok-push.ensures.items (walk_next c.loop-seen.invariant _ new
    c.waiting_input-gate.ensures.reads c.waiting_input-gate.ensures.waits)

pub place_of-requires : goal.place_of-requires
place_of-requires c =
    let again =
    mark_is c.loop-seen.invariant c.index.result.now _ c.index.ensures c.loop-seen-test.false in
    rw (c.deref.ensures.value, c.reverse.ensures.items) (comes_again c.loop-seen.invariant again)

pub returns : goal.returns
returns c =
    let ring = c.turn_to_lowest.new.ring in
    let same : c.from_vec.result ≡ ring =
    c.from_vec.ensures ∙ with_items_is c.truncate.new.self ring (omega arith) in
    let here = rw (c.deref.ensures.value, c.reverse.ensures.items) at c.place_of.ensures.holds in
    let rotated = rw (c.deref_mut.ensures.value, c.truncate.ensures.items, c.reverse.ensures.items)
    at c.turn_to_lowest.ensures.rotated.1 in
    rw same (named_ring c.loop-seen.invariant c.place_of.result here
    c.turn_to_lowest.ensures.rotated.0 ring rotated c.turn_to_lowest.ensures.lowest)
