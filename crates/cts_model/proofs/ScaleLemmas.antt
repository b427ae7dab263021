-- Numbers taken over a scale: order, sums, differences, and how far two are apart.
use Rattle.cts_model.proofs.Vocabulary.{◌≡◌, ℕ, ◌+◌, ◌*◌, ◌<◌, ◌≤◌, ℤ, pos, negsuc, ◌+ℤ◌, ◌-ℤ◌, ◌*ℤ◌, ◌≤ℤ◌, ◌<ℤ◌, refl, sym, ap, ◌∙◌, arith, nat_abs, *ℤ_comm, mul-add, mul_comm, mul-one, mul-le-mul_left, ints, clamps, by_lt_z, int_max, Uv, apart, scaled, rotated_distance, up, down}

-- a number from 0 on is its size
pub size_same : (z : ℤ) → pos 0 ≤ℤ z → pos (nat_abs z) ≡ z
size_same (pos m) from_zero = refl
size_same (negsuc m) from_zero = absurd (omega (arith, ints))

-- a scale keeps the order
pub scale_le : (scale : ℕ) (a b : ℤ) → a ≤ℤ b → (pos scale *ℤ a) ≤ℤ (pos scale *ℤ b)
scale_le scale a b below =
    let plain : up a + down b ≤ up b + down a = omega (arith, ints) in
    omega (
      arith,
      ints,
      mul-le-mul_left scale plain,
      mul-add scale (up a) (down b),
      mul-add scale (up b) (down a),
    )

-- and the strict order
pub scale_lt : (scale : ℕ) (a b : ℤ) → 0 < scale → a <ℤ b
    → (pos scale *ℤ a) <ℤ (pos scale *ℤ b)
scale_lt scale a b some less =
    let plain : up a + down b + 1 ≤ up b + down a = omega (arith, ints) in
    omega (
      arith,
      ints,
      mul-le-mul_left scale plain,
      mul-add scale (up a + down b) 1,
      mul-add scale (up a) (down b),
      mul-add scale (up b) (down a),
      mul-one scale,
    )

-- a scale goes into a sum
pub scale-add : (scale : ℕ) (a b : ℤ)
    → pos scale *ℤ (a +ℤ b) ≡ pos scale *ℤ a +ℤ pos scale *ℤ b
scale-add scale a b =
    let plain : up (a +ℤ b) + down a + down b ≡ down (a +ℤ b) + up a + up b =
    omega (arith, ints) in
    let over = simp mul-add at (ap (λ n. scale * n) plain) in
    omega (arith, ints, over)

-- and into a difference
pub scale-sub : (scale : ℕ) (a b : ℤ)
    → pos scale *ℤ (a -ℤ b) ≡ pos scale *ℤ a -ℤ pos scale *ℤ b
scale-sub scale a b =
    let plain : up (a -ℤ b) + down a + up b ≡ down (a -ℤ b) + up a + down b =
    omega (arith, ints) in
    let over = simp mul-add at (ap (λ n. scale * n) plain) in
    omega (arith, ints, over)

-- a scale that many times as fine, one scale after the other
pub scale-finer : (scale times : ℕ) (a : ℤ)
    → pos (scale * times) *ℤ a ≡ pos times *ℤ (pos scale *ℤ a)
scale-finer scale times a =
    let plain : up (pos scale *ℤ a) + scale * down a ≡ down (pos scale *ℤ a) + scale * up a =
    omega (arith, ints) in
    let over = simp mul-add at (ap (λ n. times * n) plain) in
    omega (arith, ints, over)

-- a product over a scale
pub scale-product : (times count : ℕ) (a : ℤ)
    → (a *ℤ pos times) *ℤ pos count ≡ pos times *ℤ (a *ℤ pos count)
scale-product times count a =
    *ℤ_comm (a *ℤ pos times) (pos count)
    ∙ ap (λ z. pos count *ℤ z) (*ℤ_comm a (pos times))
    ∙ sym (scale-finer times count a)
    ∙ ap (λ n. pos n *ℤ a) (mul_comm times count)
    ∙ scale-finer count times a
    ∙ ap (λ z. pos times *ℤ z) (*ℤ_comm (pos count) a)

-- the greater of two numbers is the one or the other
max_left : (a b : ℤ) → b ≤ℤ a → int_max a b ≡ a
max_left a b below = omega (arith, ints, clamps)

max_right : (a b : ℤ) → a ≤ℤ b → int_max a b ≡ b
max_right a b below = omega (arith, ints, clamps)

-- a scale goes into the greater of two numbers
pub scale-max : (scale : ℕ) (a b : ℤ)
    → pos scale *ℤ int_max a b ≡ int_max (pos scale *ℤ a) (pos scale *ℤ b)
scale-max scale a b =
    by_lt_z a b
    (λ less. let ordered : a ≤ℤ b = omega (arith, ints) in
    ap (λ z. pos scale *ℤ z) (max_right a b ordered)
    ∙ sym (max_right (pos scale *ℤ a) (pos scale *ℤ b) (scale_le scale a b ordered)))
    (λ ordered. ap (λ z. pos scale *ℤ z) (max_left a b ordered)
    ∙ sym (max_left (pos scale *ℤ a) (pos scale *ℤ b) (scale_le scale b a ordered)))

-- into how far two numbers are apart
pub scale-apart : (scale : ℕ) (a b : ℤ)
    → pos scale *ℤ apart a b ≡ apart (pos scale *ℤ a) (pos scale *ℤ b)
scale-apart scale a b =
    scale-max scale (a -ℤ b) (b -ℤ a)
    ∙ ap (λ z. int_max z (pos scale *ℤ (b -ℤ a))) (scale-sub scale a b)
    ∙ ap (λ z. int_max (pos scale *ℤ a -ℤ pos scale *ℤ b) z) (scale-sub scale b a)

-- and into the distance of two points
pub scale-distance : (scale : ℕ) (a b : Uv)
    → pos scale *ℤ rotated_distance a b ≡ rotated_distance (scaled scale a) (scaled scale b)
scale-distance scale a b =
    scale-max scale (apart a.u b.u) (apart a.v b.v)
    ∙ ap (λ z. int_max z (pos scale *ℤ apart a.v b.v)) (scale-apart scale a.u b.u)
    ∙ ap (λ z. int_max (apart (pos scale *ℤ a.u) (pos scale *ℤ b.u)) z)
    (scale-apart scale a.v b.v)
