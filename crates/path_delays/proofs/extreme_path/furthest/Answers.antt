-- The first signal with the extreme of all.
use Rattle.path_delays.proofs.Vocabulary.{Contains, arith, Contains-get_or, sums_to}
use Rattle.path_delays.proofs.CarryLemmas.{nothing_at}
use Rattle.path_delays.proofs.FurthestSignals.{furthest_found, some_fits, none_fits_next}
use Rattle.path_delays.proofs.extreme_path.furthest.Goals as goal

pub returns-in_err-sums : goal.returns-in_err-sums
returns-in_err-sums c = rw c.from_residual.ensures
    (nothing_at (sums_to c.args.walk.now c.args.lane.number) (Contains c.args.signals.now)
    c.in_err-sums.ensures)

pub returns-then-fits : goal.returns-then-fits
returns-then-fits c = grind (arith, furthest_found, Contains-get_or)

pub loop-signal-preserved : goal.loop-signal-preserved
loop-signal-preserved c = grind (arith, none_fits_next)

pub returns : goal.returns
returns c = λ signal listed.
    absurd (some_fits c.args.walk.now c.args.lane.number c.args.signals.now c.args.greatest
    c.in_ok-sums.sums c.in_ok-sums.ensures (λ place within. c.loop-signal.invariant place
    (omega arith)))
