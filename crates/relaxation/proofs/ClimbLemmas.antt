-- Climbs up the parents.
use Rattle.relaxation.proofs.Vocabulary.{◌≡◌, ◌<◌, ◌+◌, ◌∙◌, ℕ, List, [], ◌∷◌, ◌++◌, length, get_or, Some, None, sym, subst, ap, refl, arith, length_push, same_Some, none-some, slice_get_read, slice_get, option_and_then, Constraint, parent_of, Climbs}
use Rattle.relaxation.proofs.Climbs.{climbs_push}

-- the parent of a register whose place is read
pub parent_read : (constraints : List Constraint) (parents : List ℕ) (register place : ℕ)
    → register < length parents → place ≡ get_or parents register place
    → parent_of constraints parents register ≡ slice_get constraints place
parent_read constraints parents register place within read = ap (option_and_then (slice_get
    constraints)) (slice_get_read parents (length parents) register place refl within read)

-- where a climb of so many steps stands, and how each climb goes on that has as many steps as there
-- are registers
pub record IsClimbing (constraints : List Constraint) (parents : List ℕ)
    (from count register : ℕ) : Type 0 where
  pub above : List Constraint
  pub long : length above ≡ count
  pub climb : Climbs constraints parents from above register
  pub rest : (to : ℕ) (whole : List Constraint) → length whole
      ≡ length parents → Climbs constraints parents from whole to → (more : List Constraint)
      × (length more + count ≡ length parents) × Climbs constraints parents register more to

module _ {constraints : List Constraint} {parents : List ℕ} {from count register : ℕ}
    (climbing : IsClimbing constraints parents from count register) where
  -- one step more
  pub IsClimbing-more : (parent : Constraint) → count < length parents → parent_of constraints
      parents register ≡ Some parent → IsClimbing constraints parents from (count + 1) parent.tail
  IsClimbing-more parent inside here = record {
    above = climbing.above ++ parent ∷ [];
    long = length_push climbing.above parent ∙ ap (λ n. n + 1) climbing.long;
    climb = climbs_push constraints parents from climbing.above register parent climbing.climb here;
    rest = λ to whole long climb.
        let more = climbing.rest to whole long climb in
        goes_on to more.0 more.1 more.2;
  }
    where
      -- what is left of a climb, but for that step
      goes_on : (to : ℕ) (more : List Constraint) → length more + count ≡ length parents
          → Climbs constraints parents register more to → (later : List Constraint) × (length
          later + (count + 1) ≡ length parents) × Climbs constraints parents parent.tail later to
      goes_on to [] long climb = absurd (omega arith)
      goes_on to (first ∷ later) long (begin, climb) = (
        later,
        omega arith,
        subst (λ (c : Constraint). Climbs constraints parents c.tail later to)
            (same_Some first parent (sym begin ∙ here)) climb,
      )

  -- without a parent no climb goes on
  pub no_climb : count < length parents → parent_of constraints parents register ≡ None
      → (to : ℕ) (whole : List Constraint) → length whole ≡ length parents
      → Climbs constraints parents from whole to → ⊥
  no_climb inside none to whole long climb =
      let more = climbing.rest to whole long climb in
      stops more.0 more.1 more.2
    where
      -- nothing is left of a climb
      stops : (more : List Constraint) → length more + count ≡ length parents
          → Climbs constraints parents register more to → ⊥
      stops [] long climb = absurd (omega arith)
      stops (first ∷ later) long (begin, climb) = none-some first (sym none ∙ begin)
