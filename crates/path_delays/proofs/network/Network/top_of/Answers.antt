-- One signal more, and all of them.
use Rattle.path_delays.proofs.Vocabulary.{arith, cases_lt, get_or_default}
use Rattle.path_delays.proofs.network.Network.top_of.Goals as goal

pub loop-signal-preserved : goal.loop-signal-preserved
loop-signal-preserved c = grind (arith, cases_lt)

pub returns-clause-signals : goal.returns-clause-signals
returns-clause-signals c place default within =
    rw (get_or_default c.args.signals.now place default 0 within)
    (c.loop-signal.invariant.each place (omega (arith, within, c.loop-signal-test.false)))
