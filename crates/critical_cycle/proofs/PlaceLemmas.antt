-- The constraints at places of a list: one for each place.
use Rattle.critical_cycle.proofs.Vocabulary.{ℕ, ◌≡◌, ◌<◌, ◌≤◌, List, [], ◌∷◌, length, get_or, refl, sym, ◌∙◌, ap, subst, All, suc, false, pos, All-nil, All-cons, All-head, All-tail, slice_get-get_or, cons_option, Constraint, AreWithin, IsFromLowest, constraints_at, tail_at}
use Rattle.std.specs.Option.{option_map_or}

-- what stands at no place
unread : Constraint
unread = record { setup = false; tail = 0; head = 0; weight = pos 0 }

-- the constraint at the first place comes first
pub constraints_at-cons : (constraints : List Constraint) (place : ℕ) (places : List ℕ)
    (d : Constraint) → place < length constraints → constraints_at constraints (place ∷ places)
    ≡ get_or constraints place d ∷ constraints_at constraints places
constraints_at-cons constraints place places d within = ap (λ o.
    cons_option o (constraints_at constraints places)) (slice_get-get_or constraints place d within)

-- they are as many as the places
pub length-constraints_at : (constraints : List Constraint) (places : List ℕ)
    → AreWithin constraints places → length (constraints_at constraints places) ≡ length places
length-constraints_at constraints [] within = refl
length-constraints_at constraints (place ∷ places) within =
    let P : ℕ → Type 0 = λ n. n < length constraints in
    ap length (constraints_at-cons constraints place places unread (All-head P place places within))
    ∙ ap suc (length-constraints_at constraints places (All-tail P place places within))

-- the tail at a place is that of the constraint there
tail_at_is : (constraints : List Constraint) (place : ℕ) (d : Constraint)
    → place < length constraints → tail_at constraints place ≡ (get_or constraints place d).tail
tail_at_is constraints place d within = ap (λ o. option_map_or (λ (c : Constraint). c.tail) o 0)
    (slice_get-get_or constraints place d within)

-- what holds of the tails at places holds of those of the constraints there
All-tails : (Q : ℕ → Type 0) (constraints : List Constraint) (places : List ℕ)
    → AreWithin constraints places → All (λ place. Q (tail_at constraints place)) places
    → All (λ constraint. Q constraint.tail) (constraints_at constraints places)
All-tails Q constraints [] within each = All-nil (λ (c : Constraint). Q c.tail)
All-tails Q constraints (place ∷ places) within each =
    let P : ℕ → Type 0 = λ n. n < length constraints in
    let S : ℕ → Type 0 = λ n. Q (tail_at constraints n) in
    let here = All-head P place places within in
    subst (All (λ (c : Constraint). Q c.tail))
    (sym (constraints_at-cons constraints place places unread here)) (All-cons (λ (c : Constraint).
    Q c.tail) (get_or constraints place unread) (constraints_at constraints places)
    (subst Q (tail_at_is constraints place unread here) (All-head S place places each)) (All-tails
    Q constraints places (All-tail P place places within) (All-tail S place places each)))

-- the first constraint has the lowest tail where the first place has
pub from_lowest : (constraints : List Constraint) (place : ℕ) (places : List ℕ)
    → AreWithin constraints (place ∷ places) → All (λ other. tail_at constraints place ≤ tail_at
    constraints other) (place ∷ places) → IsFromLowest (constraints_at constraints (place ∷ places))
from_lowest constraints place places within lowest =
    let P : ℕ → Type 0 = λ n. n < length constraints in
    let here = All-head P place places within in
    let whole = constraints_at-cons constraints place places unread here in
    let each = All-tails (λ n. tail_at constraints place ≤ n) constraints (place ∷ places) within
    lowest in
    subst IsFromLowest (sym whole) (subst (λ low. All (λ (c : Constraint). low ≤ c.tail) (get_or
    constraints place unread ∷ constraints_at constraints places)) (tail_at_is constraints place
    unread here) (subst (All (λ (c : Constraint). tail_at constraints place ≤ c.tail)) whole each))

-- what holds of each constraint of the list holds of those at places
pub All-constraints_at : (Q : Constraint → Type 0) (constraints : List Constraint) (places : List ℕ)
    → All Q constraints → AreWithin constraints places → All Q (constraints_at constraints places)
All-constraints_at Q constraints [] each within = All-nil Q
All-constraints_at Q constraints (place ∷ places) each within =
    let P : ℕ → Type 0 = λ n. n < length constraints in
    let here = All-head P place places within in
    subst (All Q) (sym (constraints_at-cons constraints place places unread here))
    (All-cons Q (get_or constraints place unread) (constraints_at constraints places) (each place
    unread here) (All-constraints_at Q constraints places each (All-tail P place places within)))
