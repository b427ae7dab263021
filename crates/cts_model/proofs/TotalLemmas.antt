-- Sums of the values of so many nodes.
use Rattle.cts_model.proofs.Vocabulary.{◌≡◌, ℕ, zero, suc, ◌<◌, ◌+◌, ◌*◌, ◌^◌, ℤ, pos, neg_ℤ, ◌+ℤ◌, ◌*ℤ◌, ◌≤ℤ◌, inl, inr, refl, sym, ap, subst, ◌∙◌, arith, cases_lt, ints, total_length, IsBelow}
use Rattle.cts_model.proofs.ScaleLemmas.{scale-add}

-- a sum of values from 0 on is from 0 on
pub total_from_zero : (value : ℕ → ℤ) (bound : ℕ) → ((node : ℕ) → pos 0 ≤ℤ value node)
    → pos 0 ≤ℤ total_length value bound
total_from_zero value zero from_zero = omega (arith, ints)
total_from_zero value (suc bound) from_zero =
    omega (arith, ints, total_from_zero value bound from_zero, from_zero bound)

-- where it is 0, so are they all
pub all_zero : (value : ℕ → ℤ) (bound : ℕ) → ((node : ℕ) → pos 0 ≤ℤ value node)
    → total_length value bound ≡ pos 0 → (node : ℕ) → node < bound → value node ≡ pos 0
all_zero value zero from_zero none node within = absurd (omega arith)
all_zero value (suc bound) from_zero none node within =
    let rest = total_from_zero value bound from_zero in
    let last = from_zero bound in
    elim (cases_lt node bound) [
      | inl before ↦ all_zero value bound from_zero (omega (arith, ints)) node before
      | inr after ↦
          let same : bound ≡ node = omega arith in
          subst (λ other. value other ≡ pos 0) same (omega (arith, ints))
    ]

-- a sum of nothing is nothing
pub all_nothing : (value : ℕ → ℤ) (bound : ℕ) → ((node : ℕ) → node < bound → value node ≡ pos 0)
    → total_length value bound ≡ pos 0
all_nothing value zero nothing = refl
all_nothing value (suc bound) nothing =
    let rest = all_nothing value bound (λ node before. nothing node (omega arith)) in
    let last = nothing bound (omega arith) in
    omega (arith, ints)

-- where each counts 1, the sum is how many there are
pub all_ones : (value : ℕ → ℤ) (each : ℕ) (bound : ℕ) → ((node : ℕ) → value node ≡ pos each)
    → total_length value bound ≡ pos (each * bound)
all_ones value each zero ones = omega (arith, ints)
all_ones value each (suc bound) ones =
    let rest = all_ones value each bound ones in
    let last = ones bound in
    let more : each * suc bound ≡ each * bound + each = omega arith in
    omega (arith, ints)

-- lower values have a lower sum
pub total_length-le : (low high : ℕ → ℤ) (bound : ℕ)
    → ((node : ℕ) → node < bound → low node ≤ℤ high node)
    → total_length low bound ≤ℤ total_length high bound
total_length-le low high zero each = omega (arith, ints)
total_length-le low high (suc bound) each =
    let rest = total_length-le low high bound (λ node before. each node (omega arith)) in
    let last = each bound (omega arith) in
    omega (arith, ints)

-- a scale goes into a sum
pub total_length-scaled : (scale : ℕ) (value : ℕ → ℤ) (bound : ℕ)
    → total_length (λ node. pos scale *ℤ value node) bound ≡ pos scale *ℤ total_length value bound
total_length-scaled scale value zero = omega (arith, ints)
total_length-scaled scale value (suc bound) =
    ap (λ z. z +ℤ (pos scale *ℤ value bound)) (total_length-scaled scale value bound)
    ∙ sym (scale-add scale (total_length value bound) (value bound))

-- a sum in two parts
pub total_length-parts : (value : ℕ → ℤ) (prefix more : ℕ)
    → total_length value (prefix + more)
    ≡ total_length value prefix +ℤ total_length (λ node. value (prefix + node)) more
total_length-parts value prefix zero =
    let same : prefix + 0 ≡ prefix = omega arith in
    let none_more : total_length value prefix ≡ total_length value prefix +ℤ pos 0 =
    omega (arith, ints) in
    ap (λ n. total_length value n) same ∙ none_more
total_length-parts value prefix (suc more) =
    let next : prefix + suc more ≡ suc (prefix + more) = omega arith in
    let rest = total_length-parts value prefix more in
    let last : total_length value (prefix + more) +ℤ value (prefix + more)
    ≡ total_length value prefix +ℤ (total_length (λ node. value (prefix + node)) more
    +ℤ value (prefix + more)) = omega (arith, ints) in
    ap (λ n. total_length value n) next ∙ last

-- where two values together are twice a third, so are their sums
pub total_length-twice : (one other half : ℕ → ℤ) (bound : ℕ)
    → ((node : ℕ) → node < bound → one node +ℤ other node ≡ half node +ℤ half node)
    → total_length one bound +ℤ total_length other bound
    ≡ total_length half bound +ℤ total_length half bound
total_length-twice one other half zero each = refl
total_length-twice one other half (suc bound) each =
    let rest = total_length-twice one other half bound
    (λ node before. each node (omega arith)) in
    let last = each bound (omega arith) in
    omega (arith, ints)

-- one more
pub total_more : (value : ℕ → ℤ) (count : ℕ)
    → total_length value (count + 1) ≡ total_length value count +ℤ value count
total_more value count =
    let next : suc count ≡ count + 1 = omega arith in
    ap (total_length value) (sym next)

-- so many lengths are together no larger than as many times the greatest
pub total_within : (value : ℕ → ℤ) (count : ℕ)
    → ((node : ℕ) → node < count → IsBelow (10 ^ 32) (value node))
    → (neg_ℤ (pos (count * 10 ^ 32)) ≤ℤ total_length value count)
    × (total_length value count ≤ℤ pos (count * 10 ^ 32))
total_within value zero each = (omega (arith, ints), omega (arith, ints))
total_within value (suc count) each =
    let before = total_within value count (λ node here. each node (omega arith)) in
    let last = each count (omega arith) in
    (omega (arith, ints, before, last), omega (arith, ints, before, last))
