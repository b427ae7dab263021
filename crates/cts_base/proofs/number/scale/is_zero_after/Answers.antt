use Rattle.cts_base.proofs.Vocabulary.{◌-◌, ◌&&◌, drop, sym, ap, ◌∙◌, list_all, is_zero}
use Rattle.cts_base.proofs.ScaleLemmas.{rest_passes}
use Rattle.cts_base.proofs.number.scale.is_zero_after.Goals as goal

pub returns-then-are_zeros : goal.returns-then-are_zeros
returns-then-are_zeros c =
    let whole = c.args.whole.now in
    let fraction = c.args.fraction.now in
    let prefix = sym c.if-are_zeros.true ∙ c.are_zeros.ensures
    ∙ ap (λ ds. list_all is_zero ds) c.split_at.ensures.back
    ∙ ap (λ n. list_all is_zero (drop n whole)) c.min-within.ensures in
    let back = c.are_zeros-then-are_zeros.ensures
    ∙ ap (λ ds. list_all is_zero ds) c.split_at-then-are_zeros.ensures.back
    ∙ ap (λ n. list_all is_zero (drop (c.args.kept - n) fraction)) c.min-within.ensures in
    (λ i. prefix i && back i) ∙ rest_passes is_zero whole fraction c.args.kept
