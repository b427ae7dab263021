use Rattle.cts_base.proofs.Vocabulary.{◌++◌, min, drop, take, sym, ◌∙◌, arith, list_all, digits_value, is_zero}
use Rattle.cts_base.proofs.SizeLemmas.{placed, too_fine, size_up_to, size_below, size_above}
use Rattle.cts_base.proofs.number.size.size_of.Goals as goal

pub returns-then-not-is_zero_after-clause-told : goal.returns-then-not-is_zero_after-clause-told
returns-then-not-is_zero_after-clause-told c =
    let parts = c.parts_of-parts.ensures in
    let kept = c.kept_of-kept.result in
    let place = placed c.args.text.now _ _ _ _ _ _ _ parts.whole parts.fraction parts.exponent
    c.begins_with_minus-minus.ensures c.exponent_of.ensures c.places_of-places.ensures
    c.kept_of-kept.ensures in
    let more = (λ i. list_all is_zero (drop kept (sym parts.whole i ++ sym parts.fraction i)))
    ∙ sym c.is_zero_after.ensures ∙ c.if-not-is_zero_after.true in
    too_fine c.args.text.now c.places_of-places.result kept (omega arith) c.requires place more

pub returns-then-size-eq-CEILING-clause-told : goal.returns-then-size-eq-CEILING-clause-told
returns-then-size-eq-CEILING-clause-told c =
    let parts = c.parts_of-parts.ensures in
    let kept = c.kept_of-kept.result in
    let place = placed c.args.text.now _ _ _ _ _ _ _ parts.whole parts.fraction parts.exponent
    c.begins_with_minus-minus.ensures c.exponent_of.ensures c.places_of-places.ensures
    c.kept_of-kept.ensures in
    let zeros = (λ i. list_all is_zero (drop kept (sym parts.whole i ++ sym parts.fraction i)))
    ∙ sym c.is_zero_after.ensures ∙ c.if-not-is_zero_after.false in
    let number = c.kept_number-number.ensures
    ∙ (λ i.
    min (digits_value 10 (take kept (parts.whole i ++ parts.fraction i))) 1000000000000001) in
    size_above c.args.text.now c.raised_number-size.result
    (size_up_to c.args.text.now c.places_of-places.result kept c.kept_number-number.result
    c.raised_number-size.result (omega arith) place zeros number c.raised_number-size.ensures)
    c.if-size-eq-CEILING.true

pub returns-clause-told : goal.returns-clause-told
returns-clause-told c =
    let parts = c.parts_of-parts.ensures in
    let kept = c.kept_of-kept.result in
    let place = placed c.args.text.now _ _ _ _ _ _ _ parts.whole parts.fraction parts.exponent
    c.begins_with_minus-minus.ensures c.exponent_of.ensures c.places_of-places.ensures
    c.kept_of-kept.ensures in
    let zeros = (λ i. list_all is_zero (drop kept (sym parts.whole i ++ sym parts.fraction i)))
    ∙ sym c.is_zero_after.ensures ∙ c.if-not-is_zero_after.false in
    let number = c.kept_number-number.ensures
    ∙ (λ i.
    min (digits_value 10 (take kept (parts.whole i ++ parts.fraction i))) 1000000000000001) in
    size_below c.args.text.now c.raised_number-size.result
    (size_up_to c.args.text.now c.places_of-places.result kept c.kept_number-number.result
    c.raised_number-size.result (omega arith) place zeros number c.raised_number-size.ensures)
    c.if-size-eq-CEILING.false
