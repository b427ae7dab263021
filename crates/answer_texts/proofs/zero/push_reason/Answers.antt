use Rattle.answer_texts.proofs.Vocabulary.{◌+ℤ◌, ◌-ℤ◌, codes, arith, ints, pair_from, pair_to}
use Rattle.answer_texts.proofs.LineLemmas.{weight_line}
use Rattle.answer_texts.proofs.zero.push_reason.Goals as goal

pub push_constraint-requires-clause-launch : goal.push_constraint-requires-clause-launch
push_constraint-requires-clause-launch c =
    pair_from _ _ _ (rw c.in-Fails.is at c.requires.least).delays

pub push_constraint-requires-clause-capture : goal.push_constraint-requires-clause-capture
push_constraint-requires-clause-capture c =
    pair_to _ _ _ (rw c.in-Fails.is at c.requires.least).delays

pub push_constraint-requires-in-Setup-clause-launch :
    goal.push_constraint-requires-in-Setup-clause-launch
push_constraint-requires-in-Setup-clause-launch c =
    pair_from _ _ _ (rw c.in-Setup.is at c.requires.least).delays

pub push_constraint-requires-in-Setup-clause-capture :
    goal.push_constraint-requires-in-Setup-clause-capture
push_constraint-requires-in-Setup-clause-capture c =
    pair_to _ _ _ (rw c.in-Setup.is at c.requires.least).delays

pub returns-in-Fails : goal.returns-in-Fails
returns-in-Fails c =
    let small = rw c.in-Fails.is at c.requires.small in
    rw c.in-Fails.is (weight_line c.push_constraint.result _ _
    (codes "hold") c.args.circuit.now c.in-Fails.pair.from c.in-Fails.pair.to _
    (c.args.tech.now.hold -ℤ c.in-Fails.pair.least)
    c.push_constraint.ensures (omega (arith, ints, small.least)))

pub returns-in-Setup : goal.returns-in-Setup
returns-in-Setup c =
    let small = rw c.in-Setup.is at c.requires.small in
    rw c.in-Setup.is (weight_line c.push_constraint-in-Setup.result _ _
    (codes "setup") c.args.circuit.now c.in-Setup.pair.from c.in-Setup.pair.to _
    (c.in-Setup.pair.greatest +ℤ c.args.tech.now.setup)
    c.push_constraint-in-Setup.ensures (omega (arith, ints, small.greatest)))
