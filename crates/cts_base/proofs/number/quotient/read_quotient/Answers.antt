use Rattle.std.proofs.Common.{sym, ◌∙◌}
use Rattle.cts_base.proofs.QuotientReading.{no_slash_at_all, none_one, none_read, none_split, read_one, read_split, split_at_slash}
use Rattle.cts_base.proofs.number.quotient.read_quotient.Goals as goal

pub returns-in-Some-clause-some : goal.returns-in-Some-clause-some
returns-in-Some-clause-some c =
    let text = c.args.text.now in
    let found = sym c.slash_of.ensures ∙ c.in-Some.is in
    let split = split_at_slash text c.in-Some.end found in
    let some = rw c.split_at.ensures.back at c.read_over.ensures.some in
    read_split text _ _ c.read_over.result split.0 some

pub returns-in-Some-clause-none : goal.returns-in-Some-clause-none
returns-in-Some-clause-none c =
    let text = c.args.text.now in
    let found = sym c.slash_of.ensures ∙ c.in-Some.is in
    let split = split_at_slash text c.in-Some.end found in
    let some = rw c.split_at.ensures.back at c.read_over.ensures.some in
    let none = rw c.split_at.ensures.back at c.read_over.ensures.none in (
      none_split text _ _ c.read_over.result split.0 split.1 none,
      none_read text c.read_over.result (read_split text _ _ c.read_over.result split.0 some),
    )

pub returns-in-None-clause-some : goal.returns-in-None-clause-some
returns-in-None-clause-some c =
    read_one c.args.text.now c.read_over_one.result c.read_over_one.ensures.some

pub returns-in-None-clause-none : goal.returns-in-None-clause-none
returns-in-None-clause-none c =
    let text = c.args.text.now in
    let first = no_slash_at_all text (sym c.slash_of.ensures ∙ c.in-None.is) in (
      none_one text c.read_over_one.result first c.read_over_one.ensures.none,
      none_read text c.read_over_one.result
          (read_one text c.read_over_one.result c.read_over_one.ensures.some),
    )
