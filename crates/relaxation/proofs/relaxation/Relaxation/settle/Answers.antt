-- One more sweep each turn, and a climb from the register that it changed last.
use Rattle.relaxation.proofs.Vocabulary.{◌∙◌, ℕ, refl, subst, arith, ReachesUp}
use Rattle.relaxation.proofs.SettleLemmas.{IsSettling-unkept, IsSettling-more, raised_later, satisfied_swept, swept, swept_own, kept_later, far_up, none_admitted}
use Rattle.relaxation.proofs.relaxation.Relaxation.settle.Goals as goal

pub loop-changed-init : goal.loop-changed-init
loop-changed-init c = (
  rw (c.fill.ensures.items (λ y same. same)) (IsSettling-unkept _ (omega (
    arith,
    c.requires.parents,
    c.args.self.now.parents.ok.0,
  )) c.args.self.now.small c.requires.small),
  refl,
  refl,
)

pub climb-requires-clause-from : goal.climb-requires-clause-from
climb-requires-clause-from c =
    let settling = c.loop-changed.invariant.0 in
    (swept_own c.loop-changed.invariant.2 c.sweep.ensures c.in-Some.changed c.in-Some.is
    settling.long settling.ready).changes.0

pub returns-in-Some-climb-clause-settled : goal.returns-in-Some-climb-clause-settled
returns-in-Some-climb-clause-settled c =
    let settling = c.loop-changed.invariant.0 in
    let kept = c.loop-changed.invariant.2 in
    far_up kept c.sweep.ensures c.in-Some.changed c.in-Some.is settling.long settling.ready
    c.in-Some-climb.register c.in-Some-climb.ensures.within
    (subst (λ them. ReachesUp them c.sweep.new.self.parents.items c.in-Some.changed
    c.in-Some-climb.register) (kept_later kept c.sweep.ensures) c.in-Some-climb.ensures.reaches)

pub returns-in-Some-climb-clause-admitted : goal.returns-in-Some-climb-clause-admitted
returns-in-Some-climb-clause-admitted c = λ admitted.
    let settling = c.loop-changed.invariant.0 in
    let kept = c.loop-changed.invariant.2 in
    absurd (none_admitted settling c.sweep.ensures.parents (swept_own kept c.sweep.ensures
    c.in-Some.changed c.in-Some.is settling.long settling.ready) admitted c.in-Some-climb.register
    (subst (λ them. ReachesUp them c.sweep.new.self.parents.items c.in-Some.changed
    c.in-Some-climb.register) (kept_later kept c.sweep.ensures) c.in-Some-climb.ensures.reaches))

pub returns-in-Some-climb-clause-raised : goal.returns-in-Some-climb-clause-raised
returns-in-Some-climb-clause-raised c = (raised_later c.loop-changed.invariant.0
    (swept c.loop-changed.invariant.2 c.sweep.ensures).raised).raised

pub loop-changed-preserved : goal.loop-changed-preserved
loop-changed-preserved c =
    let settling = c.loop-changed.invariant.0 in
    let kept = c.loop-changed.invariant.2 in (
      IsSettling-more settling c.sweep.ensures.parents (swept_own kept c.sweep.ensures
          c.in-Some.changed c.in-Some.is settling.long settling.ready)
          (swept kept c.sweep.ensures).raised (subst (λ them. (to : ℕ) → ReachesUp them
          c.sweep.new.self.parents.items c.in-Some.changed to → ⊥)
          (kept_later kept c.sweep.ensures) c.in_default-climb.ensures.reaches),
      c.sweep.ensures.parents ∙ c.loop-changed.invariant.1,
      kept_later kept c.sweep.ensures,
    )

pub returns-clause-settled : goal.returns-clause-settled
returns-clause-settled c =
    let settling = c.loop-changed.invariant.0 in
    satisfied_swept c.loop-changed.invariant.2 c.sweep.ensures c.loop-changed.self.parents.items
    settling.long settling.ready c.in_default.is

pub returns-clause-raised : goal.returns-clause-raised
returns-clause-raised c = (raised_later c.loop-changed.invariant.0
    (swept c.loop-changed.invariant.2 c.sweep.ensures).raised).raised
