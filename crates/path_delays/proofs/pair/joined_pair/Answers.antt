-- What a walk found at the captured signals are the delays between the two registers.
use Rattle.path_delays.proofs.Vocabulary.{Contains, refl, arith, ints, sums_to}
use Rattle.path_delays.proofs.CarryLemmas.{nothing_at}
use Rattle.path_delays.proofs.ReachedPairs.{no_path, delays_between}
use Rattle.path_delays.proofs.pair.joined_pair.Goals as goal

pub returns-in_err-sums : goal.returns-in_err-sums
returns-in_err-sums c = λ circuit tech lane walk captured exact reach found.
    rw c.from_residual.ensures
    (no_path circuit tech c.args.from c.args.to lane walk captured exact reach
    (nothing_at (sums_to walk lane) (Contains captured) (rw c.in_err-sums.was at found)))

pub returns : goal.returns
returns c = λ circuit tech lane walk captured exact reach found.
    delays_between circuit tech c.args.from c.args.to lane walk captured exact reach
    c.in_ok-sums.sums _ (rw c.in_ok-sums.was at found) refl refl
    (omega (arith, ints, c.from.ensures)) (omega (arith, ints, c.from-2.ensures))
