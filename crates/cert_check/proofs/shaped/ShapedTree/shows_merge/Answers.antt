-- What is said of both sinks.
use Rattle.cert_check.proofs.Vocabulary.{◌≡◌, ◌+◌, ◌↔◌, ◌+ℤ◌, IsTrue, length, pos, refl, get_or, subst, sym, ◌∙◌, arith, common_steps, w128, ints, to_z-of_z, Sink, ShowsMerge, number_at, numbers_below, span}
use Rattle.cert_check.proofs.ShowLemmas.{denotes_show, denotes_span}
use Rattle.cert_check.proofs.shaped.ShapedTree.shows_merge.Goals as goal
use Rattle.cert_check.proofs.shaped.ShapedTree.shows_merge.Goals.{then-first-second, else-first-second, then-has_below, else-has_below}

pub returns-then-has_below-2 : goal.returns-then-has_below-2
returns-then-has_below-2 c =
    let none : Sink = record { at = record { u = pos 0; v = pos 0 }; offset = pos 0 } in
    let self = c.args.self.now.judge in
    let sinks = self.sinks.now in
    let report = self.report.now in
    let first = c.in-Pair.first in
    let second = c.in-Pair.second in
    let node = length sinks + c.args.place in
    let reach = number_at report.tree.reach node in
    let small = c.reach-reach.ensures.small in
    let plain = to_z-of_z w128 c.reach-reach.result
    (omega (arith, ints, small.above, small.below)) ∙ c.reach-reach.ensures.value in
    let denoted = subst (λ z. IsTrue c.is_half_of_span.result
    ↔ (z +ℤ z ≡ span (get_or sinks first none) (get_or sinks second none))) plain
    c.is_half_of_span.ensures in
    let value = denotes_span sinks reach first second none c.is_half_of_span.result
    c.in-Pair.ensures.among.0 c.in-Pair.ensures.among.1 denoted in
    denotes_show (ShowsMerge sinks (numbers_below (length sinks) report.topology.merges node) reach)
    report.shows _ _ c.is_half_of_span.result refl c.in-Pair.ensures.found (
      λ holds. elim c.if-has_below.branch [
        | then-has_below w ↦ elim c.if-first-second.branch [
          | then-first-second v ↦ record {
            ordered = omega (arith, v.if-first-second.true);
            first_below = v.has_below.ensures.0 (sym v.value-is ∙ w.if-has_below.true);
            second_below = w.has_below-then-has_below.ensures.0
                (sym w.value-is ∙ c.if-has_below-2.true);
            value = value.0 holds;
          }
          | else-first-second v ↦ absurd (grind (arith, common_steps))
        ]
        | else-has_below w ↦ absurd (grind (arith, common_steps))
      ],
      λ shown. value.1 shown.value,
    )
