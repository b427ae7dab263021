-- One signal more, and all of them.
use Rattle.path_delays.proofs.Vocabulary.{Contains, take, get_or, arith, subst, option_map, take_all, take_more, AreExtremesIfAny, StandsAt, sums_in, sums_of, window_at}
use Rattle.path_delays.proofs.CarryLemmas.{extremes_next}
use Rattle.path_delays.proofs.WindowLemmas.{sums_of_either}
use Rattle.path_delays.proofs.sweep.merged_windows.Goals as goal

pub loop-signal-init : goal.loop-signal-init
loop-signal-init c = λ one (signal, (place, within, here), stands). absurd (omega arith)

pub loop-signal-preserved : goal.loop-signal-preserved
loop-signal-preserved c =
    let windows = c.args.windows.now in
    let signals = c.args.signals.now in
    let i = c.loop-signal.signal-index in
    let signal = get_or signals i 0 in
    rw (
      c.either-merged.ensures,
      take_more signals i 0 c.loop-signal-test.true,
      sums_of_either c.loop-signal.merged (window_at windows signal),
    )
    (extremes_next (sums_in windows) (take i signals) signal
    (option_map sums_of c.loop-signal.merged) c.loop-signal.invariant)

pub returns : goal.returns
returns c =
    subst (λ signals. AreExtremesIfAny (StandsAt (sums_in c.args.windows.now) (Contains signals))
    (option_map sums_of c.loop-signal.merged))
    (take_all c.loop-signal.signal-index c.args.signals.now
    (omega (arith, c.loop-signal-test.false)))
    c.loop-signal.invariant
