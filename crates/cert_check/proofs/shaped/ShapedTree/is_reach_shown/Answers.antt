-- A merge, or the source.
use Rattle.cert_check.proofs.Vocabulary.{◌+◌, length, arith}
use Rattle.cert_check.proofs.ReachLemmas.{merge_shown, source_shown}
use Rattle.cert_check.proofs.shaped.ShapedTree.is_reach_shown.Goals as goal

pub returns-then-place-len : goal.returns-then-place-len
returns-then-place-len c =
    let self = c.args.self.now.judge in
    let both = merge_shown self.sinks.now self.source self.report.now c.args.self.now.are.topology
    c.args.place (omega (arith, c.if-place-len.true, c.len.ensures)) in (
      λ holds. both.0 (c.is_merge_shown.ensures.0 holds),
      λ shown. c.is_merge_shown.ensures.1 (both.1 shown),
    )

pub returns-else-place-len : goal.returns-else-place-len
returns-else-place-len c =
    let self = c.args.self.now.judge in
    let topology = c.args.self.now.are.topology in
    let both = source_shown self.sinks.now self.source self.report.now topology
    (length self.sinks.now + c.args.place)
    (omega (arith, c.if-place-len.false, c.len.ensures, c.requires, topology.all)) in (
      λ holds. both.0 (c.is_source_shown.ensures.0 holds),
      λ shown. c.is_source_shown.ensures.1 (both.1 shown),
    )
