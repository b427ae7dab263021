-- Each value is small once it is cut.
use Rattle.relaxation.proofs.Vocabulary.{◌^◌, arith}
use Rattle.relaxation.proofs.PrepareLemmas.{small_set}
use Rattle.relaxation.proofs.rounds.Rounds.lower.Goals as goal

pub invariant_of-self-clause-small : goal.invariant_of-self-clause-small
invariant_of-self-clause-small c =
    let rounds = c.loop-register.self in
    small_set (2 ^ 88) rounds.relaxation.values.items c.loop-register.register c.cut.result
    (omega arith) (search arith) c.cut.ensures rounds.small
