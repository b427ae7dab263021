-- Lists of pairs in their order, by the register that launches and then by the one that captures.
use Rattle.cts_model.proofs.Vocabulary.{ℕ, ◌≡◌, ◌<◌, List, length, get_or, sym, ◌∙◌, ap, arith, inl, inr, cases_lt, get_or_default, PairDelay, ComesBefore, AreOrdered}

-- no pair comes before another that comes before it
no_circle : (from to from' to' : ℕ) → ComesBefore from to from' to' → ComesBefore from' to' from to
    → ⊥
no_circle from to from' to' before after = grind arith

-- a pair that comes before another is listed before it
pub earlier_place : (pairs : List PairDelay) → AreOrdered pairs
    → (place earlier : ℕ) (pair other : PairDelay) → place < length pairs
    → get_or pairs place pair ≡ pair → earlier < length pairs → get_or pairs earlier other ≡ other
    → ComesBefore other.from other.to pair.from pair.to → earlier < place
earlier_place pairs ordered place earlier pair other within here inside there before =
    let other_there : get_or pairs earlier pair ≡ other =
    get_or_default pairs earlier pair other inside ∙ there in
    elim (cases_lt earlier place) [
      | inl low ↦ low
      | inr high ↦ elim (cases_lt place earlier) [
        | inl after ↦
            absurd (no_circle other.from other.to pair.from pair.to before
            (rw (here, other_there) at (ordered place earlier pair after inside)))
        | inr level ↦
            let level_place : earlier ≡ place = omega arith in
            let same : other ≡ pair =
            sym other_there ∙ ap (λ k. get_or pairs k pair) level_place ∙ here in
            let before_itself = rw same at before in
            absurd (no_circle pair.from pair.to pair.from pair.to before_itself before_itself)
      ]
    ]
