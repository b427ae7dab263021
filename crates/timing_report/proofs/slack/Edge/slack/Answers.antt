-- The times of the code are those of the definition.
use Rattle.timing_report.proofs.Vocabulary.{◌≡◌, ◌+ℤ◌, arith, ints, kept, kept_time, kept_ticks}
use Rattle.timing_report.proofs.slack.Edge.slack.Goals as goal

pub left-requires-in-Some-clause-from : goal.left-requires-in-Some-clause-from
left-requires-in-Some-clause-from c =
    record { above = omega (arith, ints); below = omega (arith, ints) }

pub left-requires-in-Some-clause-to : goal.left-requires-in-Some-clause-to
left-requires-in-Some-clause-to c =
    let window = rw c.in-Some.is at c.requires.window in
    record { above = omega (arith, ints); below = omega (arith, ints) }

pub returns-in-Some-clause-slack : goal.returns-in-Some-clause-slack
returns-in-Some-clause-slack c =
    let window = rw c.in-Some.is at c.requires.window in
    let table = c.args.tech.now.valid in
    let at = kept_time c.args.self.at c.args.self.early (omega arith) in
    let earliest = kept_time c.in-Some.window.earliest window.earliest (omega arith) in
    let latest = kept_time c.in-Some.window.latest window.latest (omega arith) in
    let next : kept (kept c.args.self.at +ℤ kept c.num.result)
    ≡ c.args.self.at +ℤ c.args.self.period.num = omega (arith, ints) in
    rw c.in-Some.is record {
      setup = rw (next, latest, kept_ticks _ table.setup_within (omega arith)) at
          c.left.ensures.ticks;
      hold = rw (at, earliest, kept_ticks _ table.hold_within (omega arith)) at
          c.left-in-Some.ensures.ticks;
    }
