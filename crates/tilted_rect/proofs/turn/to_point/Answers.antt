use Rattle.tilted_rect.proofs.Vocabulary.{◌≡◌, ◌+ℤ◌, ◌-ℤ◌, ap, arith, ints, Uv}
use Rattle.tilted_rect.proofs.CodeNumbers.{kept}
use Rattle.tilted_rect.proofs.TurnLemmas.{rotated_is, same_point}
use Rattle.tilted_rect.proofs.turn.to_point.Goals as goal

pub returns-clause-back : goal.returns-clause-back
returns-clause-back c =
    rotated_is (record { x = kept c.half.result; y = kept c.half-2.result }) c.args.at
    (omega (arith, ints)) (omega (arith, ints))

pub returns-clause-only : goal.returns-clause-only
returns-clause-only c = λ point is.
    let u : point.x +ℤ point.y ≡ c.args.at.u = ap (λ (at : Uv). at.u) is in
    let v : point.x -ℤ point.y ≡ c.args.at.v = ap (λ (at : Uv). at.v) is in
    same_point (omega (arith, ints)) (omega (arith, ints))

pub returns-clause-below : goal.returns-clause-below
returns-clause-below c = record {
  x = record { above = omega (arith, ints); below = omega (arith, ints) };
  y = record { above = omega (arith, ints); below = omega (arith, ints) };
}
