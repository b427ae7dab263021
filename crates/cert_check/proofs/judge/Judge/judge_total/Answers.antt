-- The sum is the wire.
use Rattle.std.proofs.Common.{refl, arith}
use Rattle.cert_check.proofs.ReachLemmas.{total_denoted}
use Rattle.cert_check.proofs.judge.Judge.judge_total.Goals as goal

pub returns-then-total_length-self : goal.returns-then-total_length-self
returns-then-total_length-self c =
    let self = c.args.self.now in
    (total_denoted self.sinks.now self.report.now self.few
    (omega (arith, self.count, self.size.lengths)) self.tree.lengths c.as_slice.result.now
    c.as_slice.ensures c.total_length.result c.total_length.ensures.value self.tree.total).0
    c.if-total_length-self.true

pub returns-else-total_length-self : goal.returns-else-total_length-self
returns-else-total_length-self c =
    let self = c.args.self.now in
    let denoted = total_denoted self.sinks.now self.report.now self.few
    (omega (arith, self.count, self.size.lengths)) self.tree.lengths c.as_slice.result.now
    c.as_slice.ensures c.total_length.result c.total_length.ensures.value self.tree.total in
    (λ total. c.if-total_length-self.false (denoted.1 total), refl)
