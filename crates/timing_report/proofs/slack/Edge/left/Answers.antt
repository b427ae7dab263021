-- The difference of the code is that of the clause.
use Rattle.timing_report.proofs.Vocabulary.{◌≡◌, ◌+ℤ◌, ◌-ℤ◌, ◌*ℤ◌, arith, ints, kept, kept_ticks}
use Rattle.timing_report.proofs.SlackLemmas.{left_small, left_is}
use Rattle.timing_report.proofs.slack.Edge.left.Goals as goal
use Rattle.timing_report.proofs.slack.Edge.left.Goals.{After-of}

pub of-requires-clause-small_num : goal.of-requires-clause-small_num
of-requires-clause-small_num c = omega (arith, ints)

-- what the fraction is, by the ticks of the code
ticks : (c : After-of) → (c.of.result.num *ℤ c.args.self.period.den)
    ≡ ((c.args.to -ℤ (c.args.from +ℤ c.scaled.result)) *ℤ c.of.result.den)
ticks c =
    let den : kept c.den.result ≡ c.args.self.period.den = omega (arith, ints) in
    rw (den, left_is _ _ _ c.requires.from c.scaled.ensures.small c.requires.to) at
    c.of.ensures.value

pub returns-clause-ticks : goal.returns-clause-ticks
returns-clause-ticks c =
    let scaled = rw (kept_ticks c.args.time c.requires.time (omega arith)) at
    c.scaled.ensures.scaled in
    rw (← scaled) (ticks c)

pub returns-clause-small : goal.returns-clause-small
returns-clause-small c =
    (_, ticks c, left_small _ _ _ c.requires.from c.scaled.ensures.small c.requires.to)
