-- Pieces of wires along the axes, and what two of them have in common.
use Rattle.wire_detours.proofs.Vocabulary.{◌≡◌, ◌≢◌, ℕ, ◌<◌, ℤ, pos, ◌+ℤ◌, ◌-ℤ◌, ◌*ℤ◌, ◌≤ℤ◌, ◌<ℤ◌, sym, ap, ◌∙◌, arith, ints, clamps, by_lt_z, Point, apart, Piece, IsBetween, IsOn, AreApart}
use Rattle.cts_model.proofs.ScaleLemmas.{scale_lt}

-- points are the same where their coordinates are
pub same_point : {a b : Point} → a.x ≡ b.x → a.y ≡ b.y → a ≡ b
same_point x y = λ i. record { x = x i; y = y i }

-- between a number and itself there is no other
between_same : (one other number : ℤ) → one ≡ other → IsBetween one other number → number ≡ one
between_same one other number same between = omega (
  arith,
  ints,
  clamps,
  between.least,
  between.greatest,
)

-- a point on an upright piece has its x
on_upright : (scale : ℕ) (at : Point) (piece : Piece) → piece.from.x ≡ piece.to.x
    → IsOn scale at piece → at.x ≡ pos scale *ℤ piece.from.x
on_upright scale at piece upright on = between_same _ _ at.x (ap (λ z. pos scale *ℤ z) upright) on.x

-- and one on a level piece has its y
on_level : (scale : ℕ) (at : Point) (piece : Piece) → piece.from.y ≡ piece.to.y
    → IsOn scale at piece → at.y ≡ pos scale *ℤ piece.from.y
on_level scale at piece level on = between_same _ _ at.y (ap (λ z. pos scale *ℤ z) level) on.y

-- an upright piece and a level one have at most one point in common
pub upright_level : (piece other : Piece) → piece.from.x ≡ piece.to.x
    → other.from.y ≡ other.to.y → AreApart piece other
upright_level piece other upright level = λ scale one two some one_on one_other two_on two_other.
    same_point (on_upright scale one piece upright one_on
    ∙ sym (on_upright scale two piece upright two_on))
    (on_level scale one other level one_other ∙ sym (on_level scale two other level two_other))

-- and the same the other way round
pub level_upright : (piece other : Piece) → piece.from.y ≡ piece.to.y
    → other.from.x ≡ other.to.x → AreApart piece other
level_upright piece other level upright = λ scale one two some one_on one_other two_on two_other.
    same_point (on_upright scale one other upright one_other
    ∙ sym (on_upright scale two other upright two_other))
    (on_level scale one piece level one_on ∙ sym (on_level scale two piece level two_on))

-- and so apart
scale_differs : (scale : ℕ) (a b : ℤ) → 0 < scale → a ≢ b → (pos scale *ℤ a) ≢ (pos scale *ℤ b)
scale_differs scale a b some differ same =
    by_lt_z a b
    (λ less. let order = scale_lt scale a b some less in omega (arith, ints, order, same))
    (λ no_less. by_lt_z b a
    (λ less. let order = scale_lt scale b a some less in omega (arith, ints, order, same))
    (λ no_more. differ (omega (arith, ints))))

-- two upright pieces of different x have no point in common
pub both_upright : (piece other : Piece) → piece.from.x ≡ piece.to.x
    → other.from.x ≡ other.to.x → piece.from.x ≢ other.from.x → AreApart piece other
both_upright piece other upright other_upright differ =
    λ scale one two some one_on one_other two_on two_other.
    absurd (scale_differs scale piece.from.x other.from.x some differ
    (sym (on_upright scale one piece upright one_on)
    ∙ on_upright scale one other other_upright one_other))

-- and two level ones of different y
pub both_level : (piece other : Piece) → piece.from.y ≡ piece.to.y → other.from.y ≡ other.to.y
    → piece.from.y ≢ other.from.y → AreApart piece other
both_level piece other level other_level differ =
    λ scale one two some one_on one_other two_on two_other.
    absurd (scale_differs scale piece.from.y other.from.y some differ
    (sym (on_level scale one piece level one_on) ∙ on_level scale one other other_level one_other))

-- a number is not apart from itself
pub apart_same : (a b : ℤ) → a ≡ b → apart a b ≡ pos 0
apart_same a b same = omega (arith, ints, clamps)

-- from the lower number to the higher
pub apart_up : (a b : ℤ) → a ≤ℤ b → apart a b ≡ b -ℤ a
apart_up a b ordered = omega (arith, ints, clamps)

-- and from the higher to the lower
pub apart_down : (a b : ℤ) → b ≤ℤ a → apart a b ≡ a -ℤ b
apart_down a b ordered = omega (arith, ints, clamps)

-- what is so far above a number
pub apart_above : (at by : ℤ) → pos 0 <ℤ by → apart at (at +ℤ by) ≡ by
apart_above at by some = omega (arith, ints, clamps, some)

-- what is so far below
pub apart_below : (at by : ℤ) → pos 0 <ℤ by → apart at (at -ℤ by) ≡ by
apart_below at by some = omega (arith, ints, clamps, some)

-- and the way back from above
pub apart_back : (at by : ℤ) → pos 0 <ℤ by → apart (at +ℤ by) at ≡ by
apart_back at by some = omega (arith, ints, clamps, some)

-- what is above a number is another
pub differs_above : (at by : ℤ) → pos 0 <ℤ by → at ≢ (at +ℤ by)
differs_above at by some same = omega (arith, ints, some, same)

-- the same, said from above
pub differs_back : (at by : ℤ) → pos 0 <ℤ by → (at +ℤ by) ≢ at
differs_back at by some same = omega (arith, ints, some, same)

-- no two numbers are apart by less than nothing
pub apart_least : (a b : ℤ) → pos 0 ≤ℤ apart a b
apart_least a b = omega (arith, ints, clamps)

-- and different ones are by more
pub apart_more : (a b : ℤ) → a ≢ b → pos 0 <ℤ apart a b
apart_more a b differ =
    by_lt_z a b
    (λ less. omega (arith, ints, clamps))
    (λ no_less. by_lt_z b a
    (λ less. omega (arith, ints, clamps))
    (λ no_more. absurd (differ (omega (arith, ints)))))
