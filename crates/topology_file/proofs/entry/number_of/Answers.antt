use Rattle.std.proofs.Common.{◌≤ℤ◌, pos, refl, ◌∙◌, arith}
use Rattle.std.proofs.lemmas.Int.{ints}
use Rattle.std.specs.Str.Parse.{digits_value}
use Rattle.topology_file.proofs.WordNumbers.{below_read, held, other_read, plain_read}
use Rattle.topology_file.proofs.entry.number_of.Goals as goal

pub returns-in_err-number : goal.returns-in_err-number
returns-in_err-number c = c.from_residual.ensures ∙ other_read c.args.word.now
    (λ plain. c.in_err-number.ensures.none.0 refl (pos (digits_value 10 c.args.word.now))
    (plain, refl))

pub returns-then-number-lt0 : goal.returns-then-number-lt0
returns-then-number-lt0 c =
    let (value, spells, kept) = c.in_ok-number.ensures.some in
    below_read c.args.word.now c.in_ok-number.number value spells kept
    (λ above. omega (arith, ints, c.if-number-lt0.true))

pub returns : goal.returns
returns c =
    let (value, spells, kept) = c.in_ok-number.ensures.some in
    let above : pos 0 ≤ℤ held c.in_ok-number.number = omega (arith, ints, c.if-number-lt0.false) in
    plain_read c.args.word.now c.in_ok-number.number value c.min.result spells kept above
    c.min.ensures.value
