-- Each step goes to a parent's tail; where it is back the ring is gone round.
use Rattle.critical_cycle.proofs.Vocabulary.{◌-◌, ◌∙◌, arith, length-set}
use Rattle.critical_cycle.proofs.RoundWalk.{round_first, register_within, place_within, round_next, round_gone, gone_cycle, gone_gains}
use Rattle.critical_cycle.proofs.ring.go_round.Goals as goal

pub loop-register-init : goal.loop-register-init
loop-register-init c = (
  c.requires.room,
  round_first c.args.constraints.now c.args.parents.now
      c.args.places.now c.args.start c.requires.room c.requires.small c.requires.climb,
)

pub bounds-parents-register : goal.bounds-parents-register
bounds-parents-register c = register_within _ _ _ _ _ _ c.loop-register.invariant.1

pub bounds-constraints-place : goal.bounds-constraints-place
bounds-constraints-place c = place_within _ _ _ _ _ _ c.loop-register.invariant.1

pub loop-register-preserved : goal.loop-register-preserved
loop-register-preserved c = (
  length-set c.loop-register.places (c.loop-register.at - 1) _ ∙ c.loop-register.invariant.0,
  round_next _ _ _ _ _ _ c.loop-register.invariant.1 c.requires.heads _ c.if-register-start.false,
)

pub returns-then-register-start-clause-within : goal.returns-then-register-start-clause-within
returns-then-register-start-clause-within c = (round_gone
    _ _ _ _ _ _ c.loop-register.invariant.1 c.requires.heads _ c.if-register-start.true).within

pub returns-then-register-start-clause-cycle : goal.returns-then-register-start-clause-cycle
returns-then-register-start-clause-cycle c = gone_cycle _ _ _ c.args.start _
    (round_gone _ _ _ _ _ _ c.loop-register.invariant.1 c.requires.heads _ c.if-register-start.true)
    (omega (arith, length-set c.loop-register.places (c.loop-register.at - 1)))

pub returns-then-register-start-clause-gains : goal.returns-then-register-start-clause-gains
returns-then-register-start-clause-gains c = gone_gains _ _ _ c.args.start _
    (round_gone _ _ _ _ _ _ c.loop-register.invariant.1 c.requires.heads _ c.if-register-start.true)
    (omega (arith, length-set c.loop-register.places (c.loop-register.at - 1)))
