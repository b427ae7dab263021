use Rattle.schedule.proofs.Vocabulary.{rules, subst, arith, AreTightByTail, nowhere}
use Rattle.schedule.proofs.TailLemmas.{AreTightByTail-loose, AreTightByTail-more}
use Rattle.schedule.proofs.tails.TightByTail.of.Goals.{then-has_tight, else-has_tight}
use Rattle.schedule.proofs.tails.TightByTail.of.Goals as goal

pub loop-place-preserved : goal.loop-place-preserved
loop-place-preserved c =
    let place = c.loop-place.place in
    let within = c.loop-place-test.true in
    let small = c.args.arrivals.given.small.each place nowhere within in
    elim c.if-has_tight.branch [
      | then-has_tight w ↦ rw (w.last-is, w.before-is) (AreTightByTail-more c.loop-place.invariant
          within small.tail (search rules) w.index.result.now w.index.ensures)
      | else-has_tight w ↦ rw (w.last-is, w.before-is) (AreTightByTail-loose c.loop-place.invariant
          within (search rules))
    ]

pub invariant_of-result : goal.invariant_of-result
invariant_of-result c = record {
  linked = subst (λ end. AreTightByTail c.args.arrivals end c.loop-place.last.items
      c.loop-place.before.items) (omega arith) c.loop-place.invariant;
}
