-- The slacks by the windows are those of the circuit.
use Rattle.timing_report.proofs.Vocabulary.{◌<◌, length, get_or, pos, ap, arith, subst, kept_time, AreSlacksBefore}
use Rattle.timing_report.proofs.SlackLemmas.{slacks_next, slacks_are}
use Rattle.timing_report.proofs.slack.slacks.Goals as goal

pub loop-register-preserved : goal.loop-register-preserved
loop-register-preserved c =
    let at = c.args.schedule.now.at in
    let register = c.loop-register.register in
    let windows = ap length c.as_slice-window-items.ensures in
    let low : register < length at = omega (arith, c.in_ok-windows.ensures.registers) in
    let kept = kept_time (get_or at register (pos 0)) (c.requires.small register (pos 0) low)
    (omega arith) in
    rw c.in_ok-push.ensures.items
    (slacks_next c.args.tech.now c.args.period at c.as_slice-window-items.result.now register
    c.loop-register.slacks.items c.slack.result
    (rw (c.as_slice.ensures, kept) at c.slack.ensures.slack) c.slack.ensures.small
    c.loop-register.invariant)

pub returns-clause-ok : goal.returns-clause-ok
returns-clause-ok c =
    let windows = c.as_slice-window-items.result.now in
    rw c.from_vec.ensures
    (slacks_are c.args.circuit.now c.args.tech.now c.args.period c.args.schedule.now windows
    c.loop-register.slacks.items c.requires.den
    (rw c.as_slice-window-items.ensures c.in_ok-windows.ensures)
    (subst (λ n. AreSlacksBefore c.args.tech.now c.args.period c.args.schedule.now.at windows n
    c.loop-register.slacks.items) (omega (arith, c.loop-register-test.false))
    c.loop-register.invariant))
