-- What was lowest at its place is lowest at the start.
use Rattle.gate_order.proofs.Distinct.{rotated_lowest}
use Rattle.gate_order.proofs.loop_search.turn_to_lowest.Goals as goal

pub returns-clause-lowest : goal.returns-clause-lowest
returns-clause-lowest c =
    rotated_lowest c.args.ring.now c.rotate_left.new.self c.place_of_lowest.result
    c.place_of_lowest.ensures.within c.rotate_left.ensures.after c.place_of_lowest.ensures.lowest
