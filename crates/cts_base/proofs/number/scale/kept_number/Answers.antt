use Rattle.cts_base.proofs.Vocabulary.{◌-◌, min, take, ap, ◌∙◌, digits_value, digits_value_after}
use Rattle.cts_base.proofs.ScaleLemmas.{digits_of_take, kept_value}
use Rattle.cts_base.proofs.number.scale.kept_number.Goals as goal

pub number_after-number-requires-clause-digits : goal.number_after-number-requires-clause-digits
number_after-number-requires-clause-digits c =
    digits_of_take c.min-within.result c.args.whole.now c.requires.whole

pub number_after-requires-clause-digits : goal.number_after-requires-clause-digits
number_after-requires-clause-digits c =
    digits_of_take (c.args.kept - c.min-within.result) c.args.fraction.now c.requires.fraction

pub returns : goal.returns
returns c =
    kept_value c.args.whole.now c.args.fraction.now c.args.kept 1000000000000001
    c.number_after-number.result c.number_after.result
    (c.number_after-number.ensures
    ∙ ap (λ n. min (digits_value 10 (take n c.args.whole.now)) 1000000000000001)
    c.min-within.ensures)
    (c.number_after.ensures ∙ ap (λ n. min (digits_value_after 10 c.number_after-number.result
    (take (c.args.kept - n) c.args.fraction.now)) 1000000000000001) c.min-within.ensures)
