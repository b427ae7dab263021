use Rattle.cts_base.proofs.Vocabulary.{◌≡◌, min, take, digits_value_after}
use Rattle.cts_base.proofs.number.scale.number_after.Given as goal

abbrev pub invariant-loop-byte : goal.invariant-loop-byte
invariant-loop-byte l =
    l.number ≡ min (digits_value_after 10 l.start (take l.byte-index l.digits)) l.ceiling
