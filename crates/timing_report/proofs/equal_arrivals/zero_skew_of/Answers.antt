-- The table's numbers and the delays are small, so the code's are the same.
use Rattle.std.specs.Option.{option_copied}
use Rattle.timing_report.proofs.Vocabulary.{◌∙◌, get_or, sym, ap, subst, arith, ◌+◌, ◌≤ℤ◌, ◌+ℤ◌, ints, slice_get-get_or}
use Rattle.timing_report.proofs.MostDelayedPairs.{IsMostSoFar, delay_below, delay_kept, first_quick, most_first, most_kept, most_taken, nobody}
use Rattle.timing_report.proofs.ListedPeriods.{small_at, floor_enough, most_needed}
use Rattle.timing_report.proofs.equal_arrivals.zero_skew_of.Goals as goal
use Rattle.timing_report.proofs.equal_arrivals.zero_skew_of.Goals.{then-is_less-2, else-is_less-2}

pub loop-pair-init : goal.loop-pair-init
loop-pair-init c = most_first c.args.tech.now.hold c.args.pairs.now c.in-Some.first.now
    (sym c.first.ensures.value ∙ ap option_copied c.in-Some.is)

pub returns-then-is_less : goal.returns-then-is_less
returns-then-is_less c =
    let index = c.loop-pair.pair-index in
    let small = c.requires index nobody c.loop-pair-test.true in
    first_quick c.args.tech.now.hold c.args.pairs.now index c.loop-pair.most _
    (slice_get-get_or c.args.pairs.now index nobody c.loop-pair-test.true) c.loop-pair.invariant
    (omega (arith, ints, delay_kept _ small.least, c.if-is_less.ensures))

pub is_less-requires-in-loop-pair-clause-one : goal.is_less-requires-in-loop-pair-clause-one
is_less-requires-in-loop-pair-clause-one c =
    let walked = c.loop-pair.invariant in
    delay_below _ (small_at c.args.pairs.now walked.place c.loop-pair.most walked.within walked.here
    c.requires).greatest

pub is_less-requires-in-loop-pair-clause-other : goal.is_less-requires-in-loop-pair-clause-other
is_less-requires-in-loop-pair-clause-other c =
    delay_below _ (c.requires c.loop-pair.pair-index nobody c.loop-pair-test.true).greatest

pub loop-pair-preserved : goal.loop-pair-preserved
loop-pair-preserved c =
    let hold = c.args.tech.now.hold in
    let pairs = c.args.pairs.now in
    let index = c.loop-pair.pair-index in
    let so_far = c.loop-pair.invariant in
    let here = slice_get-get_or pairs index nobody c.loop-pair-test.true in
    let small = c.requires index nobody c.loop-pair-test.true in
    let most = small_at pairs so_far.place c.loop-pair.most so_far.within so_far.here c.requires in
    let slow : hold ≤ℤ (get_or pairs index nobody).least =
    omega (arith, ints, delay_kept _ small.least, c.if-is_less.ensures) in
    elim c.if-is_less-2.branch [
      | then-is_less-2 w ↦ subst (IsMostSoFar hold pairs (index + 1)) (sym w.most-is)
          (most_taken hold pairs index c.loop-pair.most _ here so_far slow
          (omega (
            arith,
            ints,
            delay_kept _ small.greatest,
            delay_kept _ most.greatest,
            w.if-is_less-2.ensures,
          )))
      | else-is_less-2 w ↦ subst (IsMostSoFar hold pairs (index + 1)) (sym w.most-is)
          (most_kept hold pairs index c.loop-pair.most _ here so_far slow
          (omega (
            arith,
            ints,
            delay_kept _ small.greatest,
            delay_kept _ most.greatest,
            w.if-is_less-2.ensures,
          )))
    ]

pub overflow_add-value : goal.overflow_add-value
overflow_add-value c =
    let walked = c.loop-pair.invariant in
    let small = small_at c.args.pairs.now walked.place c.loop-pair.most walked.within walked.here
    c.requires in
    omega (arith, ints, small.greatest)

pub returns-then-value-tech : goal.returns-then-value-tech
returns-then-value-tech c =
    let walked = c.loop-pair.invariant in
    let small = small_at c.args.pairs.now walked.place c.loop-pair.most walked.within walked.here
    c.requires in
    let low : (c.loop-pair.most.greatest +ℤ c.args.tech.now.setup) ≤ℤ c.args.tech.now.floor =
    omega (arith, ints, small.greatest) in
    floor_enough c.args.tech.now c.args.pairs.now c.loop-pair.most _ (omega arith) walked low
    (omega (arith, ints))

pub returns-else-value-tech : goal.returns-else-value-tech
returns-else-value-tech c =
    let walked = c.loop-pair.invariant in
    let small = small_at c.args.pairs.now walked.place c.loop-pair.most walked.within walked.here
    c.requires in
    most_needed c.args.tech.now c.args.pairs.now c.loop-pair.most _ (omega arith) walked
    (omega (arith, ints, small.greatest)) (omega (arith, ints, small.greatest))
