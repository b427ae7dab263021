use Rattle.delay_tables.proofs.Vocabulary.{◌≡◌, min, take, digits_value}
use Rattle.delay_tables.proofs.fraction.capped_value.Given as goal

abbrev pub invariant-loop-digit : goal.invariant-loop-digit
invariant-loop-digit l = l.value ≡ min (digits_value 10 (take l.digit-index l.digits)) 1000001
