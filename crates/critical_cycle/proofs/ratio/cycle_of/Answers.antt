-- What was lowest where it stood is lowest at the start.
use Rattle.critical_cycle.proofs.Vocabulary.{rules, AreWithin}
use Rattle.critical_cycle.proofs.Turns.{rotated_from_lowest}
use Rattle.critical_cycle.proofs.ratio.cycle_of.Goals as goal

pub invariant_of-turn-clause-small : goal.invariant_of-turn-clause-small
invariant_of-turn-clause-small c = λ place d within. (c.requires.small.each place d within).weight

pub returns-clause-lowest : goal.returns-clause-lowest
returns-clause-lowest c =
    let constraints = c.args.constraints.now in
    let within : AreWithin constraints c.as_slice.result.now = search rules in
    rw c.from_vec.ensures (rotated_from_lowest constraints c.as_slice.result.now
    c.rotate_left-2.new.self.items c.place_of_lowest-lowest.result within
    c.place_of_lowest-lowest.ensures.within
    (rw c.as_slice.ensures.value c.rotate_left-2.ensures.items)
    c.place_of_lowest-lowest.ensures.lowest)
