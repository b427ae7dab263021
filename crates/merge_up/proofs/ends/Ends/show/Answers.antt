use Rattle.merge_up.proofs.Vocabulary.{arith, ints}
use Rattle.merge_up.proofs.EndLemmas.{u_ends_show, v_ends_show}
use Rattle.merge_up.proofs.ends.Ends.show.Goals as goal

pub returns-then-spread : goal.returns-then-spread
returns-then-spread c = λ sinks numbers reach are twice. rw c.pair.ensures
    (u_ends_show sinks numbers reach c.args.self are twice
    (omega (arith, ints, c.if-spread.true, c.spread.ensures, c.spread-2.ensures)))

pub returns-else-spread : goal.returns-else-spread
returns-else-spread c = λ sinks numbers reach are twice. rw c.pair-else-spread.ensures
    (v_ends_show sinks numbers reach c.args.self are twice
    (omega (arith, ints, c.if-spread.false, c.spread.ensures, c.spread-2.ensures)))
