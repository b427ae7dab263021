-- One more sweep each turn, with one more parent above the register that it changed last.
use Rattle.std.proofs.Common.{◌∙◌, refl, sym}
use Rattle.relaxation.proofs.SettleLemmas.{is_none, IsSettling-admitted, IsSettling-unkept, kept_later, raised_later, satisfied_swept, swept}
use Rattle.relaxation.proofs.relaxation.Relaxation.satisfy.Goals as goal

pub loop-gains-init : goal.loop-gains-init
loop-gains-init c = (_, IsSettling-unkept _ refl c.args.self.now.small c.requires.small, refl)

pub loop-gains-preserved : goal.loop-gains-preserved
loop-gains-preserved c =
    let kept = c.loop-gains.invariant.2 in
    let next = IsSettling-admitted c.requires.admitted kept c.loop-gains.invariant.1
    c.sweep.result (sym c.is_some.ensures ∙ c.loop-gains-test.true) c.sweep.ensures in
    (next.0, next.1, kept_later kept c.sweep.ensures)

pub returns-clause-satisfied : goal.returns-clause-satisfied
returns-clause-satisfied c =
    let settling = c.loop-gains.invariant.1 in
    satisfied_swept c.loop-gains.invariant.2 c.sweep.ensures c.loop-gains.invariant.0 settling.long
    settling.ready (is_none c.sweep.result (sym c.is_some.ensures ∙ c.loop-gains-test.false))

pub returns-clause-raised : goal.returns-clause-raised
returns-clause-raised c = (raised_later c.loop-gains.invariant.1
    (swept c.loop-gains.invariant.2 c.sweep.ensures).raised).raised
