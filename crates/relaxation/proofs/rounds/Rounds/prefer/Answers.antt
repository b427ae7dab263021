-- A gain is small.
use Rattle.relaxation.proofs.Vocabulary.{◌^◌, ◌<◌, length, subst, sym, arith, Constraint}
use Rattle.relaxation.proofs.PrepareLemmas.{small_set}
use Rattle.relaxation.proofs.rounds.Rounds.prefer.Goals as goal

pub invariant_of-self-then-gain-index-clause-small :
    goal.invariant_of-self-then-gain-index-clause-small
invariant_of-self-then-gain-index-clause-small c =
    let rounds = c.args.self.now in
    let found = c.in-Some.ensures.lookup.3 in
    let d = c.in-Some.constraint.now in
    small_set (2 ^ 80) rounds.relaxation.values.items d.head c.gain-gain.result (omega arith)
    (subst (λ (it : Constraint). it.head < length rounds.relaxation.values.items) (sym (found.1 d))
    (rounds.relaxation.small.each c.args.place d found.0).head) c.gain-gain.ensures.small
    rounds.small
