-- Sweeps satisfy the constraints, as some arrivals do, and keep the arrivals rising, so they are
-- the least and small.
use Rattle.schedule.proofs.Vocabulary.{◌^◌, All, subst, sym, arith, IsBelow, AreLeastArrivalsBy}
use Rattle.schedule.proofs.RiseLemmas.{CanRaise-raised, least_settled, small_ready}
use Rattle.schedule.proofs.least.settled.Goals as goal

pub satisfy-requires-clause-small : goal.satisfy-requires-clause-small
satisfy-requires-clause-small c =
    small_ready c.args.relaxation.values.items (2 ^ 94) (omega arith) c.requires

pub returns-clause-least : goal.returns-clause-least
returns-clause-least c =
    subst (AreLeastArrivalsBy c.args.relaxation.constraints.now c.args.gains)
    (sym c.from_vec.ensures)
    (least_settled c.satisfy.ensures.raised c.satisfy.ensures.satisfied c.requires)

pub returns-clause-small : goal.returns-clause-small
returns-clause-small c = subst
    (All (IsBelow (2 ^ 93))) (sym c.from_vec.ensures) (small_ready c.satisfy.new.self.values.items
    (2 ^ 93) (omega arith) (CanRaise-raised c.satisfy.ensures.raised c.requires))
