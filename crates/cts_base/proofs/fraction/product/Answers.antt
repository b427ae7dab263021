use Rattle.cts_base.proofs.Vocabulary.{◌^◌, ◌*ℤ◌, FitsSigned, refl, arith, w128, ints, fits_signed_mul, to_z-of_z}
use Rattle.cts_base.proofs.fraction.product.Goals as goal

pub returns : goal.returns
returns c =
    let a = c.args.a in
    let b = c.args.b in
    let fits : FitsSigned w128 (a *ℤ b) = fits_signed_mul w128 a b (10 ^ 18) (10 ^ 18)
    (omega (arith, ints)) (omega (arith, ints)) (omega arith) in
    rw (to_z-of_z w128 a c.ranges.a, to_z-of_z w128 b c.ranges.b, to_z-of_z w128 (a *ℤ b) fits)
    (record { value = refl })
