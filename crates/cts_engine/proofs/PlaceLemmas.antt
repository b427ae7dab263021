-- The constraints at places of a list.
use Rattle.cts_engine.proofs.Vocabulary.{◌≡◌, ◌<◌, ◌+◌, ℕ, List, [], ◌∷◌, ◌++◌, length, take, get_or, ap, subst, sym, ◌∙◌, false, pos, All, cons_option, slice_get, take_more, All-nil, All-cons, All-head, All-tail, All-get_or, filter_map-append, slice_get-get_or, Constraint, AreWithin, constraints_at}

-- what stands at no place
unread : Constraint
unread = record { setup = false; tail = 0; head = 0; weight = pos 0 }

-- the constraint at the next place comes after those at the places before
pub constraints_at_more : (constraints : List Constraint) (places : List ℕ) (at start : ℕ)
    → (next : Constraint) → at < length places → AreWithin constraints places
    → constraints_at constraints (take (at + 1) places)
    ≡ constraints_at constraints (take at places)
    ++ get_or constraints (get_or places at start) next ∷ []
constraints_at_more constraints places at start next here within =
    let place = get_or places at start in
    let passed = constraints_at constraints (take at places) in
    let inside = All-get_or (λ n. n < length constraints) places at start here within in
    ap (constraints_at constraints) (take_more places at start here)
    ∙ filter_map-append (slice_get constraints) (take at places) (place ∷ [])
    ∙ ap (λ found. passed ++ cons_option found []) (slice_get-get_or constraints place next inside)

-- what holds of each constraint of the list holds of those at places
pub All-constraints_at : (Property : Constraint → Type 0) (constraints : List Constraint)
    → (places : List ℕ) → All Property constraints → AreWithin constraints places
    → All Property (constraints_at constraints places)
All-constraints_at Property constraints [] each within = All-nil Property
All-constraints_at Property constraints (place ∷ places) each within =
    let Within : ℕ → Type 0 = λ n. n < length constraints in
    let inside = All-head Within place places within in
    let rest = constraints_at constraints places in
    let here : Constraint = get_or constraints place unread in
    subst (λ found. All Property (cons_option found rest))
    (sym (slice_get-get_or constraints place unread inside))
    (All-cons Property here rest (each place unread inside)
    (All-constraints_at Property constraints places each (All-tail Within place places within)))
