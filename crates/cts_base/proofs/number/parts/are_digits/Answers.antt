use Rattle.cts_base.proofs.DecimalLemmas.{digits_tested}
use Rattle.cts_base.proofs.number.parts.are_digits.Goals as goal

pub returns-clause-digits : goal.returns-clause-digits
returns-clause-digits c =
    digits_tested c.all_ascii_digits.result c.args.bytes.now c.all_ascii_digits.ensures
