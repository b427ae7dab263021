use Rattle.std.proofs.Common.{◌==◌, not}
use Rattle.delay_tables.proofs.Vocabulary.{◌≡◌, ◌-◌, length, get_or, rules, arith, and_parts, is_ascii_digit, list_all}
use Rattle.delay_tables.proofs.Fractions.{capped_more}
use Rattle.delay_tables.proofs.fraction.capped_value.Goals as goal

pub loop-digit-preserved : goal.loop-digit-preserved
loop-digit-preserved c =
    let (some, all) = and_parts (not (length c.args.digits.now == 0))
    (list_all is_ascii_digit c.args.digits.now) c.requires in
    let digit : c.from.result ≡ get_or c.args.digits.now c.loop-digit.digit-index 0 - 48 =
    search rules in
    rw (c.min-value.ensures, digit)
    (capped_more c.args.digits.now c.loop-digit.digit-index c.loop-digit.value all
    (omega arith) c.loop-digit.invariant)
