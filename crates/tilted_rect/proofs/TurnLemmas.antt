-- Points are the same where their coordinates are.
use Rattle.tilted_rect.proofs.Vocabulary.{◌≡◌, ◌+ℤ◌, ◌-ℤ◌, Uv, rotated}
use Rattle.cts_model.specs.declared.place.Point.{Point}

pub same_point : {a b : Point} → a.x ≡ b.x → a.y ≡ b.y → a ≡ b
same_point x y = λ i. record { x = x i; y = y i }

-- a point has the rotated coordinates that its sum and difference are
pub rotated_is : (point : Point) (at : Uv) → point.x +ℤ point.y ≡ at.u → point.x -ℤ point.y ≡ at.v
    → rotated point ≡ at
rotated_is point at u v = λ i. record { u = u i; v = v i }
