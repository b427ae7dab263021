-- What two pieces of a wire have in common, by their coordinates.
use Rattle.cert_check.proofs.Vocabulary.{◌≡◌, ℕ, ◌<◌, ℤ, pos, ◌*ℤ◌, ◌≤ℤ◌, ◌<ℤ◌, inl, inr, ap, arith, ints, clamps, by_lt_z, Point, IsBetween, AreApart, Share, greatest_common, least_common, piece}
use Rattle.std.specs.Int.{int_min}
use Rattle.cts_model.proofs.ScaleLemmas.{scale_le, scale_lt, scale-max}

-- the lesser of two numbers is the one or the other
min_left : (a b : ℤ) → a ≤ℤ b → int_min a b ≡ a
min_left a b below = omega (arith, ints, clamps)

min_right : (a b : ℤ) → b ≤ℤ a → int_min a b ≡ b
min_right a b below = omega (arith, ints, clamps)

-- a scale goes into the lesser of two numbers
scale-min : (scale : ℕ) (a b : ℤ)
    → pos scale *ℤ int_min a b ≡ int_min (pos scale *ℤ a) (pos scale *ℤ b)
scale-min scale a b = search (arith, by_lt_z, ints, min_right, scale_le, min_left)

-- a number between both pairs is no less than the least common one over the scale
from_least : (scale : ℕ) (from to start end at : ℤ)
    → IsBetween (pos scale *ℤ from) (pos scale *ℤ to) at
    → IsBetween (pos scale *ℤ start) (pos scale *ℤ end) at
    → (pos scale *ℤ least_common from to start end) ≤ℤ at
from_least scale from to start end at one other = search (arith, scale-max, scale-min, ints, clamps)

-- nor more than the greatest
to_greatest : (scale : ℕ) (from to start end at : ℤ)
    → IsBetween (pos scale *ℤ from) (pos scale *ℤ to) at
    → IsBetween (pos scale *ℤ start) (pos scale *ℤ end) at
    → at ≤ℤ (pos scale *ℤ greatest_common from to start end)
to_greatest scale from to start end at one other =
    search (arith, scale-min, scale-max, ints, clamps)

-- no number is between two pairs that have none in common
none_common : (scale : ℕ) (from to start end at : ℤ) → 0 < scale
    → greatest_common from to start end <ℤ least_common from to start end
    → IsBetween (pos scale *ℤ from) (pos scale *ℤ to) at
    → IsBetween (pos scale *ℤ start) (pos scale *ℤ end) at → ⊥
none_common scale from to start end at some none one other =
    let low = from_least scale from to start end at one other in
    let high = to_greatest scale from to start end at one other in
    let order = scale_lt scale (greatest_common from to start end)
    (least_common from to start end) some none in
    omega (arith, ints, low, high, order)

-- and one at most is where they have one
one_common : (scale : ℕ) (from to start end at also : ℤ)
    → least_common from to start end ≡ greatest_common from to start end
    → IsBetween (pos scale *ℤ from) (pos scale *ℤ to) at
    → IsBetween (pos scale *ℤ start) (pos scale *ℤ end) at
    → IsBetween (pos scale *ℤ from) (pos scale *ℤ to) also
    → IsBetween (pos scale *ℤ start) (pos scale *ℤ end) also → at ≡ also
one_common scale from to start end at also same one other also_one also_other =
    let low = from_least scale from to start end at one other in
    let high = to_greatest scale from to start end at one other in
    let also_low = from_least scale from to start end also also_one also_other in
    let also_high = to_greatest scale from to start end also also_one also_other in
    let level = ap (λ z. pos scale *ℤ z) same in
    omega (arith, ints, low, high, also_low, also_high, level)

-- a number from the least common one to the greatest is between both pairs
between_common : (from to start end at : ℤ) → least_common from to start end ≤ℤ at
    → at ≤ℤ greatest_common from to start end
    → IsBetween (pos 1 *ℤ from) (pos 1 *ℤ to) at × IsBetween (pos 1 *ℤ start) (pos 1 *ℤ end) at
between_common from to start end at low high = search (arith, ints, clamps)

module _ (from to start end : Point) where
  abbrev left : ℤ
  left = least_common from.x to.x start.x end.x

  abbrev right : ℤ
  right = greatest_common from.x to.x start.x end.x

  abbrev low : ℤ
  low = least_common from.y to.y start.y end.y

  abbrev high : ℤ
  high = greatest_common from.y to.y start.y end.y

  -- what the pieces share, by what they have in common along each axis
  abbrev pub PiecesShare : Type 0
  PiecesShare = Share left right low high

  -- two pieces that share one point or none are apart
  pub apart_by_share : PiecesShare → AreApart (piece from to) (piece start end)
  apart_by_share (inl none) = λ scale one two some on other _ _.
      absurd (none_common scale from.x to.x start.x end.x one.x some none on.x other.x)
  apart_by_share (inr (inl none)) = λ scale one two some on other _ _.
      absurd (none_common scale from.y to.y start.y end.y one.y some none on.y other.y)
  apart_by_share (inr (inr (x, y))) = λ scale one two some on other also_on also_other.
      let same_x = one_common scale from.x to.x start.x end.x one.x two.x x on.x other.x
      also_on.x also_other.x in
      let same_y = one_common scale from.y to.y start.y end.y one.y two.y y on.y other.y
      also_on.y also_other.y in
      λ i. record { x = same_x i; y = same_y i }

  -- and two that are apart share no more
  pub share_by_apart : AreApart (piece from to) (piece start end) → PiecesShare
  share_by_apart apart = by_lt_z right left (λ none. inl none)
      (λ wide. by_lt_z high low (λ none. inr (inl none)) (λ tall. inr (inr (same wide tall))))
    where
      same : left ≤ℤ right → low ≤ℤ high → (left ≡ right) × (low ≡ high)
      same wide tall =
          let one : Point = record { x = left; y = low } in
          let two : Point = record { x = right; y = high } in
          let least_x = between_common from.x to.x start.x end.x left (omega (arith, ints)) wide in
          let most_x = between_common from.x to.x start.x end.x right wide (omega (arith, ints)) in
          let least_y = between_common from.y to.y start.y end.y low (omega (arith, ints)) tall in
          let most_y = between_common from.y to.y start.y end.y high tall (omega (arith, ints)) in
          let met : one ≡ two = apart 1 one two (omega arith)
          (record { x = least_x.0; y = least_y.0 }) (record { x = least_x.1; y = least_y.1 })
          (record { x = most_x.0; y = most_y.0 }) (record { x = most_x.1; y = most_y.1 }) in
          (ap (λ (at : Point). at.x) met, ap (λ (at : Point). at.y) met)
