use Rattle.cts_base.proofs.Vocabulary.{cond, drop, sym, ap, ◌∙◌, without_leading_plus}
use Rattle.cts_base.proofs.WholeReading.{none_above, none_below, none_read, read_above, read_below}
use Rattle.cts_base.proofs.number.whole.read_whole.Goals as goal

pub returns-then-begins_with_minus-clause-some : goal.returns-then-begins_with_minus-clause-some
returns-then-begins_with_minus-clause-some c =
    let text = c.args.text.now in
    let minus = sym c.begins_with_minus.ensures ∙ c.if-begins_with_minus.true in
    let same = c.without_sign.ensures
    ∙ ap (λ b. cond b (drop 1 text) (without_leading_plus text)) minus in
    read_below text c.below_zero.result minus (rw same at c.below_zero.ensures.some)

pub returns-then-begins_with_minus-clause-none : goal.returns-then-begins_with_minus-clause-none
returns-then-begins_with_minus-clause-none c =
    let text = c.args.text.now in
    let minus = sym c.begins_with_minus.ensures ∙ c.if-begins_with_minus.true in
    let same = c.without_sign.ensures
    ∙ ap (λ b. cond b (drop 1 text) (without_leading_plus text)) minus in
    let read = read_below text c.below_zero.result minus (rw same at c.below_zero.ensures.some) in (
      none_below text c.below_zero.result minus (rw same at c.below_zero.ensures.none),
      none_read text c.below_zero.result read,
    )

pub returns-clause-some : goal.returns-clause-some
returns-clause-some c = read_above c.args.text.now c.read_size.result c.read_size.ensures.some

pub returns-clause-none : goal.returns-clause-none
returns-clause-none c =
    let text = c.args.text.now in
    let plus = sym c.begins_with_minus.ensures ∙ c.if-begins_with_minus.false in (
      none_above text c.read_size.result plus c.read_size.ensures.none,
      none_read text c.read_size.result
          (read_above text c.read_size.result c.read_size.ensures.some),
    )
