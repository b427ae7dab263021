use Rattle.report_text.proofs.Vocabulary.{◌≡◌, ◌≤◌, pos, nat_abs, of_z, to_z, arith, w128, ints}
use Rattle.report_text.proofs.NumberWords.{whole_read}
use Rattle.report_text.proofs.SpelledFields.{small_number}
use Rattle.report_text.proofs.judging.read_number.Goals as goal

pub returns-clause-value : goal.returns-clause-value
returns-clause-value c =
    let (value, spells, kept) = c.in-Some.ensures.some in
    let number = nat_abs (to_z w128 (of_z w128 c.in-Some.value)) in
    let same : pos number ≡ c.in-Some.value =
    omega (arith, ints, c.if-value-least.false, c.if-value-most.false) in
    let few : number ≤ c.args.most = omega (arith, ints, same, c.if-value-most.false) in (
      whole_read _ _ _ _ spells kept same (small_number _ (omega (arith, few))),
      (omega (arith, ints, same, c.if-value-least.false), few),
    )
