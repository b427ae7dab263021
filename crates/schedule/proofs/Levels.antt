-- Levels of registers moved together until none is far above the next one below, so that all are
-- low and no constraint is broken.
use Rattle.schedule.proofs.Vocabulary.{ℕ, zero, suc, ◌≡◌, ◌<◌, ◌≤◌, ◌+◌, ◌-◌, ◌*◌, ℤ, pos, negsuc, ◌+ℤ◌, ◌≤ℤ◌, inl, inr, subst, ap, arith, cases_eq, cases_lt, ints}

-- how much of the width above a level is below another
abbrev pub part_below : (level width other : ℕ) → ℕ
part_below level width other = (other - level) - ((other - level) - width)

-- 1 at a level that is among those of the width above the first
abbrev pub covers : (level width other : ℕ) → ℕ
covers level width other = part_below level width (other + 1) - part_below level width other

module _ (level : ℕ → ℕ) (width : ℕ) where
  -- 1 at a level that one of the first so many registers covers
  abbrev covered : (registers other : ℕ) → ℕ
  covered zero other = 0
  covered (suc registers) other = covered registers other
      + (covers (level registers) width other - covered registers other)

  -- how many levels below one are covered
  abbrev pub lowered : (registers other : ℕ) → ℕ
  lowered registers zero = 0
  lowered registers (suc other) = lowered registers other + covered registers other

  -- none is covered twice
  covered_once : (registers other : ℕ) → covered registers other ≤ 1
  covered_once zero other = omega arith
  covered_once (suc registers) other = omega (arith, covered_once registers other)

  -- a register covers the width from its level on
  is_covered : (registers register other : ℕ) → register < registers → level register ≤ other
      → other < level register + width → 1 ≤ covered registers other
  is_covered zero register other within from to = absurd (omega arith)
  is_covered (suc registers) register other within from to = elim (cases_eq register registers) [
    | inl same ↦
        let first : level registers ≤ other = subst (λ r. level r ≤ other) same from in
        let last : other < level registers + width = subst (λ r. other < level r + width) same to in
        omega arith
    | inr apart ↦
        let before = is_covered registers register other (omega arith) from to in omega arith
  ]

  -- what is above stays above, and comes no further away
  lowered_above : (registers low high : ℕ) → low ≤ high → (lowered registers low
      ≤ lowered registers high) × (lowered registers high ≤ lowered registers low + (high - low))
  lowered_above registers low zero above =
      let none : low ≡ 0 = omega arith in
      let same : lowered registers low ≡ 0 = ap (lowered registers) none in
      (omega arith, omega arith)
  lowered_above registers low (suc high) above = elim (cases_lt high low) [
    | inl last ↦
        let all : low ≡ suc high = omega arith in
        let same : lowered registers low ≡ lowered registers (suc high) =
        ap (lowered registers) all in
        (omega arith, omega arith)
    | inr before ↦
        let rest = lowered_above registers low high before in
        let once = covered_once registers high in (
          omega (arith, rest.0),
          omega (arith, rest.1),
        )
  ]

  -- what is above a register by no more than the width comes no nearer
  lowered_far : (registers register high : ℕ) → register < registers → level register ≤ high
      → high ≤ level register + width
      → (lowered registers (level register) + (high - level register)) ≤ lowered registers high
  lowered_far registers register zero within above near =
      let none : level register ≡ 0 = omega arith in
      let same : lowered registers (level register) ≡ 0 = ap (lowered registers) none in
      omega arith
  lowered_far registers register (suc high) within above near =
      elim (cases_lt high (level register)) [
        | inl last ↦
            let all : level register ≡ suc high = omega arith in
            let same : lowered registers (level register) ≡ lowered registers (suc high) =
            ap (lowered registers) all in
            omega arith
        | inr before ↦
            let rest = lowered_far registers register high within before (omega arith) in
            let covers = is_covered registers register high within before (omega arith) in
            omega arith
      ]

  -- a register more covers no more than the width, and nothing below its level
  one_more : (registers other : ℕ) → lowered (suc registers) other
      ≤ lowered registers other + part_below (level registers) width other
  one_more registers zero = omega arith
  one_more registers (suc other) =
      let rest = one_more registers other in omega arith

  -- without registers nothing is covered
  none_lowered : (other : ℕ) → lowered 0 other ≡ 0
  none_lowered zero = omega arith
  none_lowered (suc other) = omega (arith, none_lowered other)

  -- so many registers cover no more than so many widths
  all_low : (registers other : ℕ) → lowered registers other ≤ registers * width
  all_low zero other = omega (arith, none_lowered other)
  all_low (suc registers) other =
      let rest = all_low registers other in
      let more = one_more registers other in omega arith

  -- and below the level of one of them only the others do
  pub lowered_low : (registers register : ℕ) → register < suc registers
      → lowered (suc registers) (level register) ≤ registers * width
  lowered_low zero register within =
      let none : register ≡ 0 = omega arith in
      let same : lowered 1 (level register) ≡ lowered 1 (level 0) =
      ap (λ r. lowered 1 (level r)) none in
      let more = one_more 0 (level 0) in
      let nothing = none_lowered (level 0) in omega arith
  lowered_low (suc registers) register within = elim (cases_eq register (suc registers)) [
    | inl last ↦
        let same : lowered (suc (suc registers)) (level register)
        ≡ lowered (suc (suc registers)) (level (suc registers)) =
        ap (λ r. lowered (suc (suc registers)) (level r)) last in
        let more = one_more (suc registers) (level (suc registers)) in
        let all = all_low (suc registers) (level (suc registers)) in omega arith
    | inr before ↦
        let rest = lowered_low registers register (omega arith) in
        let more = one_more (suc registers) (level register) in omega arith
  ]

  -- what a register is to be above another stands, where that is no more than the width
  pub lowered_keeps : (registers tail head : ℕ) (gain : ℤ) → tail < registers
      → gain ≤ℤ pos width → (pos (level tail) +ℤ gain) ≤ℤ pos (level head)
      → (pos (lowered registers (level tail)) +ℤ gain) ≤ℤ pos (lowered registers (level head))
  lowered_keeps registers tail head (pos gain) within small met =
      let above : level tail + gain ≤ level head = omega (arith, ints) in
      let low : gain ≤ width = omega (arith, ints) in
      let far = lowered_far registers tail (level tail + gain) within (omega arith) (omega arith) in
      let rest = (lowered_above registers (level tail + gain) (level head) above).0 in
      let sum : lowered registers (level tail) + gain ≤ lowered registers (level head) =
      omega arith in
      omega (arith, ints)
  lowered_keeps registers tail head (negsuc gain) within small met =
      let above : level tail ≤ level head + suc gain = omega (arith, ints) in
      let near = (lowered_above registers (level head) (level head + suc gain) (omega arith)).1 in
      let rest = (lowered_above registers (level tail) (level head + suc gain) above).0 in
      let sum : lowered registers (level tail) ≤ lowered registers (level head) + suc gain =
      omega arith in
      omega (arith, ints)
