-- One merge more.
use Rattle.cert_check.proofs.Vocabulary.{rules, length, arith, common_steps}
use Rattle.cert_check.proofs.FirstPlaces.{denied}
use Rattle.cert_check.proofs.MarkLemmas.{marks_more, of_unmarked}
use Rattle.cert_check.proofs.judge.Judge.judge_merges.Goals as goal

pub loop-place-init : goal.loop-place-init
loop-place-init c = grind (arith, common_steps)

pub loop-place-preserved : goal.loop-place-preserved
loop-place-preserved c =
    let self = c.args.self.now in
    let within = rw c.as_slice-merges.ensures at c.loop-place-test.true in
    let unmarked = rw (c.as_slice.ensures.value, c.as_slice-merges.ensures)
    at (c.is_of_unmarked.ensures.0 c.if-not-is_of_unmarked.false) in
    rw c.as_slice-merges.ensures (marks_more (length self.sinks.now)
    self.report.now.topology.merges c.loop-place.place c.loop-place.joined.items within
    c.loop-place.invariant (omega (arith, self.size.merges, self.count)) unmarked)

pub returns-then-not-is_of_unmarked : goal.returns-then-not-is_of_unmarked
returns-then-not-is_of_unmarked c =
    let within = rw c.as_slice-merges.ensures at c.loop-place-test.true in
    let tests = rw (c.as_slice.ensures.value, c.as_slice-merges.ensures)
    at c.is_of_unmarked.ensures in
    search (arith, rules, of_unmarked, denied, within, tests)
