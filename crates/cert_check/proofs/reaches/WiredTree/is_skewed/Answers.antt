-- Two differences, as the code keeps them; wires down are one.
use Rattle.cert_check.proofs.Vocabulary.{◌^◌, pos, arith, ints, Sink, number_at, tree_of}
use Rattle.cert_check.proofs.ReachLemmas.{denotes_level, skewed_level}
use Rattle.cert_check.proofs.ShowLemmas.{kept_below}
use Rattle.cert_check.proofs.reaches.WiredTree.is_skewed.Goals as goal

pub difference-wire-requires-clause-one : goal.difference-wire-requires-clause-one
difference-wire-requires-clause-one c =
    let self = c.args.self.now in
    kept_below (10 ^ 36) (10 ^ 36) _ (omega arith) (omega arith)
    (self.small c.args.register (pos 0) (omega (arith, c.requires, self.all)))

pub difference-wire-requires-clause-other : goal.difference-wire-requires-clause-other
difference-wire-requires-clause-other c =
    let self = c.args.self.now in
    kept_below (10 ^ 36) (10 ^ 36) _ (omega arith) (omega arith)
    (self.small 0 (pos 0) (omega (arith, c.requires, self.all)))

pub difference-requires-clause-one : goal.difference-requires-clause-one
difference-requires-clause-one c = kept_below (10 ^ 32) (10 ^ 36) _ (omega arith) (omega arith)
    (c.args.self.now.judge.small 0
    (record { at = record { u = pos 0; v = pos 0 }; offset = pos 0 })
    (omega (arith, c.requires))).offset

pub difference-requires-clause-other : goal.difference-requires-clause-other
difference-requires-clause-other c = kept_below (10 ^ 32) (10 ^ 36) _ (omega arith) (omega arith)
    (c.args.self.now.judge.small c.args.register
    (record { at = record { u = pos 0; v = pos 0 }; offset = pos 0 }) c.requires).offset

pub returns : goal.returns
returns c =
    let none : Sink = record { at = record { u = pos 0; v = pos 0 }; offset = pos 0 } in
    let self = c.args.self.now in
    let judge = self.judge in
    let sinks = judge.sinks.now in
    let register = c.args.register in
    let first = (judge.small 0 none (omega (arith, c.requires))).offset in
    let sink = (judge.small register none c.requires).offset in
    let top = self.small 0 (pos 0) (omega (arith, c.requires, self.all)) in
    let wire = self.small register (pos 0) (omega (arith, c.requires, self.all)) in
    let one = c.difference-wire.ensures in
    let other = c.difference.ensures in
    let level = denotes_level sinks (number_at self.wires.now) register none c.are_same.result
    c.requires (
      λ holds.
          let same = c.are_same.ensures.0 holds in
          omega (arith, ints, first, sink, top, wire, one, other, same),
      λ same. c.are_same.ensures.1
          (omega (arith, ints, first, sink, top, wire, one, other, same)),
    ) in
    let law = skewed_level sinks judge.report.now.topology.merges (tree_of judge)
    (number_at self.wires.now) self.topology self.down register c.requires in (
      λ test. law.0 (level.0 test),
      λ skewed. level.1 (law.1 skewed),
    )
