-- The pairs of one register that launches, by the registers of a list.
use Rattle.path_delays.proofs.Vocabulary.{ℕ, ◌≡◌, ◌<◌, ◌≤◌, ◌+◌, List, length, get_or, Contains, inl, inr, ◌∙◌, arith, cases_eq, cases_lt, get_or_default, Circuit, Tech, PairDelay, AreAllReached, ListsPairsBefore}
use Rattle.path_delays.proofs.PairWalk.{skip_pairs, register_next}

-- the registers before a place in the list are below the next number, and the others aren't
pub record ArePassed (registers : List ℕ) (place next : ℕ) : Type 0 where
  pub earlier : (other : ℕ) → other < place → get_or registers other 0 < next
  pub later : (other : ℕ) → place ≤ other → other < length registers
      → next ≤ get_or registers other 0

-- a number that is listed stands at a place
place_of : (registers : List ℕ) (register : ℕ) → Contains registers register
    → (place : ℕ) × (place < length registers) × (get_or registers place 0 ≡ register)
place_of registers register (place, within, here) =
    (place, within, get_or_default registers place 0 register within ∙ here)

module _ {circuit : Circuit} {from : ℕ} {registers : List ℕ}
    (reached : AreAllReached circuit from registers) {place next : ℕ}
    (passed : ArePassed registers place next) where
  -- one register more
  pub passed_next : place < length registers
      → ArePassed registers (place + 1) (get_or registers place 0 + 1)
  passed_next within = grind (arith, cases_lt)

  module _ (tech : Tech) (pairs : List PairDelay)
      (listed : ListsPairsBefore circuit tech from next pairs) where
    -- no pair comes between those passed and the next register of the list
    pub passed_here : place < length registers
        → ListsPairsBefore circuit tech from (get_or registers place 0) pairs
    passed_here within = skip_pairs circuit tech from next (get_or registers place 0) pairs
        (passed.later place (omega arith) within) (λ capture path low high is_path.
        let found = place_of registers capture (reached.joined capture path is_path) in
        elim (cases_lt found.0 place) [
          | inl earlier ↦ absurd (omega (arith, passed.earlier found.0 earlier, found.2))
          | inr later ↦ elim (cases_eq found.0 place) [
            | inl same ↦ absurd (omega (arith, rw same at found.2))
            | inr differs ↦ absurd (omega (
              arith,
              reached.ascending place found.0 0 (omega arith) found.1,
              found.2,
            ))
          ]
        ]) listed

    -- where all are passed, the next register launches
    pub passed_all : length registers ≤ place → ListsPairsBefore circuit tech (from + 1) 0 pairs
    passed_all past = register_next circuit tech from next pairs (λ capture path after is_path.
        let found = place_of registers capture (reached.joined capture path is_path) in
        absurd (omega (arith, passed.earlier found.0 (omega (arith, found.1)), found.2))) listed
