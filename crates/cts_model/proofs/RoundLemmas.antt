-- Constraints that hold together at each place, round to the first, are a cycle, and a cycle's do.
use Rattle.cts_model.proofs.Vocabulary.{◌≡◌, ℕ, zero, suc, ◌<◌, ◌≤◌, ◌+◌, true, false, pos, List, [], ◌∷◌, length, get_or, inl, inr, refl, sym, ap, subst, ◌∙◌, arith, ◌==◌, if◌then◌else◌, AllPairs, IfSome, IsSomeAnd, cases_lt, eq-eqb, ne_eqb, slice_get-get_or, Constraint, IsCycle, Leads, total_count, HoldsTogether, HoldsTogetherHere, next_place}
use Rattle.std.specs.Prelude.{◌≢◌, slice_get}

-- the constraint at a place, and one of no weight past the end
abbrev constraint_at : List Constraint → ℕ → Constraint
constraint_at cycle place =
    get_or cycle place (record { setup = false; tail = 0; head = 0; weight = pos 0 })

-- where each head is the next one's tail, and the last head is that register, they lead to it
leads_along : (constraint : Constraint) (rest : List Constraint) (to : ℕ)
    → ((place : ℕ) → place < length rest → (constraint_at (constraint ∷ rest) place).head
    ≡ (constraint_at (constraint ∷ rest) (suc place)).tail)
    → (constraint_at (constraint ∷ rest) (length rest)).head ≡ to
    → Leads constraint.tail (constraint ∷ rest) to
leads_along constraint [] to joins last = (refl, last)
leads_along constraint (next ∷ rest) to joins last = (
  refl,
  subst (λ from. Leads from (next ∷ rest) to) (sym (joins 0 (omega arith)))
      (leads_along next rest to (λ place within. joins (suc place) (omega arith)) last),
)

-- the place after one that isn't the last, and after the last
next_within : (places place : ℕ) → place + 1 < places → next_place places place ≡ suc place
next_within places place within =
    let other : (place + 1 == places) ≡ false = ne_eqb (place + 1) places (λ same. omega arith) in
    ap (λ b. if b then 0 else place + 1) other ∙ omega arith

next_round : (place : ℕ) → next_place (suc place) place ≡ 0
next_round place =
    let same : (place + 1 == suc place) ≡ true = eq-eqb (place + 1) (suc place) (omega arith) in
    ap (λ b. if b then 0 else place + 1) same

module _ (cycle : List Constraint)
    (together : (place : ℕ) → place < length cycle → HoldsTogether cycle place) where
  -- what holds at a place
  here : (place : ℕ) (default : Constraint) → place < length cycle
      → HoldsTogetherHere cycle place (get_or cycle place default)
  here place default within = subst (λ found. IfSome found (HoldsTogetherHere cycle place))
      (slice_get-get_or cycle place default within) (together place within)

  -- the head there is the tail of the next
  joined : (place next : ℕ) → place < length cycle → next_place (length cycle) place ≡ next
      → next < length cycle → (constraint_at cycle place).head ≡ (constraint_at cycle next).tail
  joined place next within is inside = subst (λ found. IfSome found
      (λ other. (constraint_at cycle place).head ≡ other.tail))
      (ap (slice_get cycle) is ∙ slice_get-get_or cycle next (constraint_at [] 0) inside)
      (here place (constraint_at [] 0) within).joins

  -- and no two tails are the same
  apart : AllPairs (λ first second. first.tail ≢ second.tail) cycle
  apart earlier place default before within = subst (λ found. IfSome found
      (λ other. other.tail ≢ (get_or cycle place default).tail))
      (slice_get-get_or cycle earlier default (omega arith))
      ((here place default within).once earlier before)

-- constraints that hold together and count the period lead from the first tail back to it
round : (cycle : List Constraint)
    → ((place : ℕ) → place < length cycle → HoldsTogether cycle place) → 1 ≤ total_count cycle
    → IsSomeAnd (slice_get cycle 0) (λ first. Leads first.tail cycle first.tail)
round [] together counts = absurd (omega arith)
round (first ∷ rest) together counts = leads_along first rest first.tail
    (λ place within. joined (first ∷ rest) together place (suc place) (omega arith)
    (next_within (length (first ∷ rest)) place (omega arith)) (omega arith))
    (joined (first ∷ rest) together (length rest) 0 (omega arith) (next_round (length rest))
    (omega arith))

-- so they are a cycle
pub round_is_cycle : (cycle : List Constraint)
    → ((place : ℕ) → place < length cycle → HoldsTogether cycle place) → 1 ≤ total_count cycle
    → IsCycle cycle
round_is_cycle cycle together counts = record {
  closed = round cycle together counts;
  once = apart cycle together;
}

-- of constraints that lead to a register each head is the next one's tail
joins_along : (constraint : Constraint) (rest : List Constraint) (to : ℕ)
    → Leads constraint.head rest to → (place : ℕ) → place < length rest
    → (constraint_at (constraint ∷ rest) place).head
    ≡ (constraint_at (constraint ∷ rest) (suc place)).tail
joins_along constraint [] to leads place within = absurd (omega arith)
joins_along constraint (next ∷ rest) to (tail, leads) zero within = sym tail
joins_along constraint (next ∷ rest) to (tail, leads) (suc place) within =
    joins_along next rest to leads place (omega arith)

-- and the last head is that register
ends_along : (constraint : Constraint) (rest : List Constraint) (to : ℕ)
    → Leads constraint.head rest to → (constraint_at (constraint ∷ rest) (length rest)).head ≡ to
ends_along constraint [] to same = same
ends_along constraint (next ∷ rest) to (tail, leads) = ends_along next rest to leads

-- round a cycle each head is the tail of the next
joins_round : (cycle : List Constraint)
    → IsSomeAnd (slice_get cycle 0) (λ first. Leads first.tail cycle first.tail)
    → (place : ℕ) → place < length cycle → (next_place (length cycle) place < length cycle)
    × ((constraint_at cycle place).head
    ≡ (constraint_at cycle (next_place (length cycle) place)).tail)
joins_round [] closed place within = absurd (omega arith)
joins_round (first ∷ rest) (tail, leads) place within = elim (cases_lt place (length rest)) [
  | inl inside ↦
      let next = next_within (length (first ∷ rest)) place (omega arith) in (
        omega (arith, next),
        subst (λ n. (constraint_at (first ∷ rest) place).head
            ≡ (constraint_at (first ∷ rest) n).tail) (sym next)
            (joins_along first rest first.tail leads place inside),
      )
  | inr last ↦
      let same : length rest ≡ place = omega arith in
      let next = next_round (length rest) in (
        subst (λ n. next_place (suc (length rest)) n < suc (length rest)) same
            (omega (arith, next)),
        subst (λ n. (constraint_at (first ∷ rest) n).head
            ≡ (constraint_at (first ∷ rest) (next_place (suc (length rest)) n)).tail) same
            (subst (λ n. (constraint_at (first ∷ rest) (length rest)).head
            ≡ (constraint_at (first ∷ rest) n).tail) (sym next)
            (ends_along first rest first.tail leads)),
      )
]

-- so a cycle's constraints hold together
pub cycle_holds_together : (cycle : List Constraint) → IsCycle cycle → (place : ℕ)
    → place < length cycle → HoldsTogether cycle place
cycle_holds_together cycle is place within =
    let none = constraint_at [] 0 in
    let next = next_place (length cycle) place in
    let (inside, joins) = joins_round cycle is.closed place within in
    subst (λ found. IfSome found (HoldsTogetherHere cycle place))
    (sym (slice_get-get_or cycle place none within)) (record {
      joins = subst (λ found. IfSome found
          (λ other. (constraint_at cycle place).head ≡ other.tail))
          (sym (slice_get-get_or cycle next none inside)) joins;
      once = λ earlier before. subst (λ found. IfSome found
          (λ other. other.tail ≢ (constraint_at cycle place).tail))
          (sym (slice_get-get_or cycle earlier none (omega arith)))
          (is.once earlier place none before within);
    })
