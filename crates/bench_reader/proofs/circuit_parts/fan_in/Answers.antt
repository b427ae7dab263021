use Rattle.std.proofs.Common.{sym}
use Rattle.bench_reader.proofs.FanIns.{numbers_next, all_numbered}
use Rattle.bench_reader.proofs.circuit_parts.fan_in.Goals as goal

pub loop-name-preserved : goal.loop-name-preserved
loop-name-preserved c = (
  tt,
  tt,
  numbers_next c.loop-name.invariant.2 c.in-Some.ensures.steps
      (sym c.in-Some-number_of.ensures) c.in_ok-push.ensures.ok,
)

pub returns-clause-defined : goal.returns-clause-defined
returns-clause-defined c = all_numbered c.loop-name.invariant.2 c.in-None.ensures.steps.0
