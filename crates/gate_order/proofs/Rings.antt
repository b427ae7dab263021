-- Rings of gates: what closes one, and a ring that is rotated.
use Rattle.gate_order.proofs.Vocabulary.{ℕ, zero, suc, ◌≡◌, ◌<◌, ◌+◌, List, [], ◌∷◌, ◌++◌, ◌≤◌, length, take, drop, Some, refl, sym, subst, arith, All, length-append, length-take, take-append-drop, slice_get_within, IsSomeAnd, slice_index, slice_get, Signal, Follows, IsLoop, IsNamedLoop}
use Rattle.gate_order.proofs.Distinct.{AreDistinct, distinct_rotated}

-- a chain of two parts has a gate where they meet
follows_parts : (signals : List Signal) (prefix back : List ℕ) (first last : ℕ)
    → Follows signals first (prefix ++ back) last
    → (middle : ℕ) × Follows signals first prefix middle × Follows signals middle back last
follows_parts signals [] back first last chain = (first, refl, chain)
follows_parts signals (gate ∷ prefix) back first last (reads, chain) =
    let parts = follows_parts signals prefix back gate last chain in
    (parts.0, (reads, parts.1), parts.2)

-- two chains that meet are one
pub follows_joined : (signals : List Signal) (prefix back : List ℕ) (first middle last : ℕ)
    → Follows signals first prefix middle → Follows signals middle back last
    → Follows signals first (prefix ++ back) last
follows_joined signals [] back first middle last same chain =
    subst (λ n. Follows signals n back last) (sym same) chain
follows_joined signals (gate ∷ prefix) back first middle last (reads, chain) rest =
    (reads, follows_joined signals prefix back gate middle last chain rest)

-- a chain up to one of its gates
follows_to : (signals : List Signal) (gates : List ℕ) (first last place gate : ℕ)
    → Follows signals first gates last → slice_get gates place ≡ Some gate
    → Follows signals first (take (place + 1) gates) gate
follows_to signals [] first last place gate chain here = cc
follows_to signals (next ∷ gates) first last zero gate (reads, chain) here = (reads, cc)
follows_to signals (next ∷ gates) first last (suc place) gate (reads, chain) here =
    let more : suc place + 1 ≡ suc (place + 1) = omega arith in
    rw more (reads, follows_to signals gates next last place gate chain here)

-- a ring is a chain that ends where it begins
closed : (signals : List Signal) (ring : List ℕ) → IsLoop signals ring
    → (last : ℕ) × (0 < length ring) × Follows signals last ring last
closed signals [] ring = absurd ring
closed signals (first ∷ gates) (last, chain, reads) = (last, omega arith, (reads, chain))

-- and such a chain is a ring
ring_from_closed : (signals : List Signal) (ring : List ℕ) (last : ℕ) → 0 < length ring
    → Follows signals last ring last → IsLoop signals ring
ring_from_closed signals [] last some chain = absurd (omega arith)
ring_from_closed signals (first ∷ gates) last some (reads, chain) = (last, chain, reads)

-- a ring with its first gates after the others is a ring
rotated_ring : (signals : List Signal) (prefix back : List ℕ) → IsLoop signals (prefix ++ back)
    → IsLoop signals (back ++ prefix)
rotated_ring signals prefix back ring =
    let whole = closed signals (prefix ++ back) ring in
    let parts = follows_parts signals prefix back whole.0 whole.0 whole.2 in
    let some : 0 < length (back ++ prefix) =
    omega (arith, length-append prefix back, length-append back prefix, whole.1) in
    ring_from_closed signals (back ++ prefix) parts.0 some
    (follows_joined signals back prefix parts.0 whole.0 parts.0 parts.2 parts.1)

-- what comes back to its first gate is a ring up to there
pub cut_ring : (signals : List Signal) (gates : List ℕ) (last place gate : ℕ)
    → Follows signals gate gates last → slice_get gates place ≡ Some gate
    → IsLoop signals (take (place + 1) gates)
cut_ring signals gates last place gate chain here =
    let within = slice_get_within gates place gate here in
    let some : 0 < length (take (place + 1) gates) =
    omega (arith, length-take (place + 1) gates, within) in
    ring_from_closed signals (take (place + 1) gates) gate some
    (follows_to signals gates gate last place gate chain here)

-- a ring that begins with its lowest number
lowest_first : (signals : List Signal) (ring : List ℕ) → IsLoop signals ring
    → All (λ gate. slice_index ring 0 ≤ gate) ring
    → IsSomeAnd (slice_get ring 0) (λ first. All (λ gate. first ≤ gate) ring)
lowest_first signals [] loop lowest = absurd loop
lowest_first signals (first ∷ gates) loop lowest = lowest

-- a ring of distinct gates, rotated to its lowest number, is a ring as it is named
pub named_rotated : (signals : List Signal) (loop : List ℕ) → IsLoop signals loop → AreDistinct loop
    → (turn : ℕ) (ring : List ℕ) → ring ≡ drop turn loop ++ take turn loop
    → All (λ gate. slice_index ring 0 ≤ gate) ring → IsNamedLoop signals ring
named_rotated signals loop is_loop once turn ring rotated lowest =
    let parted : loop ≡ take turn loop ++ drop turn loop = sym (take-append-drop turn loop) in
    let around : IsLoop signals ring = subst (IsLoop signals) (sym rotated)
    (rotated_ring signals (take turn loop) (drop turn loop)
    (subst (IsLoop signals) parted is_loop)) in
    record {
      ring = around;
      once = subst AreDistinct (sym rotated)
          (distinct_rotated (take turn loop) (drop turn loop) (subst AreDistinct parted once));
      lowest = lowest_first signals ring around lowest;
    }
