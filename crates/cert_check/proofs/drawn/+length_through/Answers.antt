use Rattle.cert_check.proofs.Vocabulary.{◌≡◌, ◌+ℤ◌, ◌∙◌, to_z, of_z, sym, arith, w128, ints}
use Rattle.cert_check.proofs.WayLemmas.{distance_within, head, length-others, origin, total-more}
use Rattle.cert_check.proofs.drawn.+length_through.Goals as goal

pub overflow_add-result : goal.overflow_add-result
overflow_add-result t c =
    let points = c.args.points.now in
    let some = c.in-len1-up.len_at_least in
    let far = distance_within c.args.from (head points) c.manhattan.result
    c.manhattan.ensures.value c.requires.from (c.requires.small 0 origin some) in
    let count = length-others points some in
    omega (
      arith,
      ints,
      far.0,
      far.1,
      count,
      c.requires.few,
      c.length_through.ensures.low,
      c.length_through.ensures.high,
    )

pub returns-in-len1-up-clause-total : goal.returns-in-len1-up-clause-total
returns-in-len1-up-clause-total t c =
    let points = c.args.points.now in
    let some = c.in-len1-up.len_at_least in
    let far = distance_within c.args.from (head points) c.manhattan.result
    c.manhattan.ensures.value c.requires.from (c.requires.small 0 origin some) in
    let count = length-others points some in
    let kept : to_z w128 (of_z w128 (to_z w128 (of_z w128 c.manhattan.result)
    +ℤ to_z w128 (of_z w128 c.length_through.result)))
    ≡ c.manhattan.result +ℤ c.length_through.result = omega (
      arith,
      ints,
      far.0,
      far.1,
      count,
      c.requires.few,
      c.length_through.ensures.low,
      c.length_through.ensures.high,
    ) in
    kept ∙ (λ i. c.manhattan.ensures.value i +ℤ c.length_through.ensures.total i)
    ∙ sym (total-more c.args.from points some)

pub returns-in-len1-up-clause-low : goal.returns-in-len1-up-clause-low
returns-in-len1-up-clause-low t c =
    let points = c.args.points.now in
    let some = c.in-len1-up.len_at_least in
    let far = distance_within c.args.from (head points) c.manhattan.result
    c.manhattan.ensures.value c.requires.from (c.requires.small 0 origin some) in
    let count = length-others points some in
    omega (
      arith,
      ints,
      far.0,
      far.1,
      count,
      c.requires.few,
      c.length_through.ensures.low,
      c.length_through.ensures.high,
    )

pub returns-in-len1-up-clause-high : goal.returns-in-len1-up-clause-high
returns-in-len1-up-clause-high t c =
    let points = c.args.points.now in
    let some = c.in-len1-up.len_at_least in
    let far = distance_within c.args.from (head points) c.manhattan.result
    c.manhattan.ensures.value c.requires.from (c.requires.small 0 origin some) in
    let count = length-others points some in
    omega (
      arith,
      ints,
      far.0,
      far.1,
      count,
      c.requires.few,
      c.length_through.ensures.low,
      c.length_through.ensures.high,
    )
