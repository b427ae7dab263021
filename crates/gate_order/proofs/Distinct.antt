-- Lists of distinct numbers the other way round, in part and rotated, and the lowest number of a
-- rotated list.
use Rattle.gate_order.proofs.Vocabulary.{ℕ, ◌≡◌, ◌≢◌, ◌<◌, ◌≤◌, ◌+◌, ◌-◌, List, ◌++◌, length, get_or, take, drop, reverse, refl, sym, ◌∙◌, ap, subst, arith, add-zero, All, AllPairs, ⊎_elim, cases_lt, slice_index, All-append, All-take, All-drop, length-reverse, length-take, length-drop, length-append, get_or-reverse, get_or-take, get_or-drop, get_or_append_left, get_or-append-add, get_or-append_right}

-- no two places have the same number
abbrev pub AreDistinct : List ℕ → Type 0
AreDistinct numbers = AllPairs (λ first second. first ≢ second) numbers

-- so they are the other way round
pub distinct_reverse : (numbers : List ℕ) → AreDistinct numbers → AreDistinct (reverse numbers)
distinct_reverse numbers once i j d before within same =
    let size : j < length numbers = omega (arith, length-reverse numbers) in
    once (length numbers - 1 - j) (length numbers - 1 - i) d (omega arith) (omega arith)
    (sym (get_or-reverse numbers j d size) ∙ sym same ∙ get_or-reverse numbers i d (omega arith))

-- so are the first of them
pub distinct_take : (count : ℕ) (numbers : List ℕ) → AreDistinct numbers
    → AreDistinct (take count numbers)
distinct_take count numbers once i j d before within same =
    let size = length-take count numbers in
    once i j d before (omega arith)
    (sym (get_or-take count numbers i d (omega arith)) ∙ same
    ∙ get_or-take count numbers j d (omega arith))

-- so they are with the first of them after the others
pub distinct_rotated : (prefix back : List ℕ) → AreDistinct (prefix ++ back)
    → AreDistinct (back ++ prefix)
distinct_rotated prefix back once i j d before within same =
    let size : j < length back + length prefix = omega (arith, length-append back prefix) in
    let whole : length (prefix ++ back) ≡ length prefix + length back = length-append prefix back in
    ⊎_elim
    (λ low. once (length prefix + i) (length prefix + j) d (omega arith) (omega arith)
    (suffix i ∙ sym (ahead i (omega arith)) ∙ same ∙ ahead j low ∙ sym (suffix j)))
    (λ high. ⊎_elim
    (λ low. once (j - length back) (length prefix + i) d (omega arith) (omega arith)
    (sym (wrapped j high size) ∙ sym same ∙ ahead i low ∙ sym (suffix i)))
    (λ over. once (i - length back) (j - length back) d (omega arith) (omega arith)
    (sym (wrapped i over (omega arith)) ∙ same ∙ wrapped j high size))
    (cases_lt i (length back)))
    (cases_lt j (length back))
  where
    suffix : (k : ℕ) → get_or (prefix ++ back) (length prefix + k) d ≡ get_or back k d
    suffix k = get_or-append-add prefix back k d

    ahead : (k : ℕ) → k < length back → get_or (back ++ prefix) k d ≡ get_or back k d
    ahead k low = get_or_append_left back prefix d k low

    wrapped : (k : ℕ) → length back ≤ k → k < length back + length prefix
        → get_or (back ++ prefix) k d ≡ get_or (prefix ++ back) (k - length back) d
    wrapped k over within = get_or-append_right back prefix (length back) k d refl over
        ∙ sym (get_or_append_left prefix back d (k - length back) (omega arith))

-- where the lowest number comes first it is the lowest still
pub rotated_lowest : (numbers rotated : List ℕ) (turn : ℕ) → turn < length numbers
    → rotated ≡ drop turn numbers ++ take turn numbers
    → All (λ number. slice_index numbers turn ≤ number) numbers
    → All (λ number. slice_index rotated 0 ≤ number) rotated
rotated_lowest numbers rotated turn within is lowest =
    let first : slice_index (drop turn numbers ++ take turn numbers) 0 ≡ slice_index numbers turn =
    get_or_append_left (drop turn numbers) (take turn numbers) 0 0
    (omega (arith, length-drop turn numbers)) ∙ get_or-drop turn numbers 0 0
    ∙ ap (λ n. get_or numbers n 0) (add-zero turn) in
    let P : ℕ → ℕ → Type 0 = λ low number. low ≤ number in
    let parts : All (P (slice_index numbers turn)) (drop turn numbers ++ take turn numbers) =
    All-append (P (slice_index numbers turn)) (drop turn numbers) (take turn numbers)
    (All-drop (P (slice_index numbers turn)) turn numbers lowest)
    (All-take (P (slice_index numbers turn)) turn numbers lowest) in
    let same : slice_index rotated 0 ≡ slice_index numbers turn =
    ap (λ l. slice_index l 0) is ∙ first in
    subst (λ low. All (P low) rotated) (sym same)
    (subst (All (P (slice_index numbers turn))) (sym is) parts)
