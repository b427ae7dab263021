-- The gate joins the sums with its own, or holds them alone and waits.
use Rattle.path_delays.proofs.Vocabulary.{◌∙◌, pos, sym, subst, arith, get_or_default, IsInserted}
use Rattle.path_delays.proofs.Hands.{CanHand-there, IsHanded-merged, IsHanded-passed}
use Rattle.path_delays.proofs.reach.Reach.hand_to.Goals as goal

pub merge-requires : goal.merge-requires
merge-requires c = CanHand-there c.args.network.now c.args.self.now c.args.signal c.args.gate
    c.index-delay.result.now c.requires.signal c.requires.gate c.index-delay.ensures

pub pass-requires : goal.pass-requires
pass-requires c = CanHand-there c.args.network.now c.args.self.now c.args.signal c.args.gate
    c.index-delay.result.now c.requires.signal c.requires.gate c.index-delay.ensures

pub returns-then-contains : goal.returns-then-contains
returns-then-contains c given here = IsHanded-merged c.args.network.now c.args.self.now
    c.args.signal c.args.gate given c.index-delay.result.now here
    (c.index-delay.ensures ∙ get_or_default c.args.network.now.delays.items c.args.gate
    c.index-delay.result.now (record { least = pos 0; greatest = pos 0 })
    (omega (arith, c.requires.gate, c.requires.signal.room.delays)))
    c.merge.new.self (sym c.if-contains.ensures)
    (omega (arith, c.requires.gate, c.requires.signal.room.lanes)) c.merge.ensures.limit
    c.merge.ensures.sums

pub returns-else-contains : goal.returns-else-contains
returns-else-contains c given here = IsHanded-passed c.args.network.now c.args.self.now
    c.args.signal c.args.gate given c.index-delay.result.now here
    (c.index-delay.ensures ∙ get_or_default c.args.network.now.delays.items c.args.gate
    c.index-delay.result.now (record { least = pos 0; greatest = pos 0 })
    (omega (arith, c.requires.gate, c.requires.signal.room.delays)))
    c.insert.new.self c.insert-else-contains.new.self c.pass.new.self (sym c.if-contains.ensures)
    c.insert.ensures
    (subst (λ rank. IsInserted rank c.args.self.now.waiting.words.items
    c.insert-else-contains.new.self.words.items) (c.index.ensures
    ∙ get_or_default c.args.network.now.ranks.items c.args.gate c.index.result.now 0
    c.requires.gate) c.insert-else-contains.ensures) c.pass.ensures.limit c.pass.ensures.sums
