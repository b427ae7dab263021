-- The constraints of one circuit by two tables stand side by side.
use Rattle.corners.proofs.Vocabulary.{◌≡◌, ◌<◌, ℕ, zero, suc, List, [], ◌∷◌, length, refl, arith, Circuit, Constraint, Tech, PairDelay, AreConstraintsBy, AreAlike, AreParallel, constraint_at}
use Rattle.constraints.specs.PairConstraints.{setup_constraint, hold_constraint, constraints_of_pairs}
use Rattle.corners.proofs.SamePairs.{AreSamePairs, same_for_tables}

-- alike constraints before parallel lists
parallel_cons : (one other : Constraint) (ones others : List Constraint) → AreAlike one other
    → AreParallel ones others → AreParallel (one ∷ ones) (other ∷ others)
parallel_cons one other ones others alike parallel = record {
  lengths = omega (arith, parallel.lengths);
  alike = at;
}
  where
    at : (place : ℕ) → place < length (one ∷ ones)
        → AreAlike (constraint_at (one ∷ ones) place) (constraint_at (other ∷ others) place)
    at zero within = alike
    at (suc place) within = parallel.alike place (omega (arith, within))

module _ (tech other_tech : Tech) where
  -- the constraints of the same pairs are parallel
  parallel_constraints : (pairs others : List PairDelay) → AreSamePairs pairs others
      → AreParallel (constraints_of_pairs tech pairs) (constraints_of_pairs other_tech others)
  parallel_constraints [] [] same =
      record { lengths = refl; alike = λ place within. absurd (omega (arith, within)) }
  parallel_constraints [] (other ∷ others) same = absurd (omega (arith, same.lengths))
  parallel_constraints (pair ∷ pairs) [] same = absurd (omega (arith, same.lengths))
  parallel_constraints (pair ∷ pairs) (other ∷ others) same =
      let rest : AreSamePairs pairs others = record {
        lengths = omega (arith, same.lengths);
        from = λ place within. same.from (suc place) (omega (arith, within));
        to = λ place within. same.to (suc place) (omega (arith, within));
      } in
      let from : pair.from ≡ other.from = same.from zero (omega arith) in
      let to : pair.to ≡ other.to = same.to zero (omega arith) in
      parallel_cons (setup_constraint tech.setup pair) (setup_constraint other_tech.setup other)
      (hold_constraint tech.hold pair ∷ constraints_of_pairs tech pairs)
      (hold_constraint other_tech.hold other ∷ constraints_of_pairs other_tech others)
      (record { setup = refl; tail = from; head = to })
      (parallel_cons (hold_constraint tech.hold pair) (hold_constraint other_tech.hold other)
      (constraints_of_pairs tech pairs) (constraints_of_pairs other_tech others)
      (record { setup = refl; tail = to; head = from })
      (parallel_constraints pairs others rest))

-- so are the constraints of a circuit by two tables
pub parallel_by_tables : (circuit : Circuit) (tech other_tech : Tech)
    → (constraints others : List Constraint) → AreConstraintsBy circuit tech constraints
    → AreConstraintsBy circuit other_tech others → AreParallel constraints others
parallel_by_tables circuit tech other_tech constraints others one other =
    rw (one.of_pairs, other.of_pairs) (parallel_constraints tech other_tech one.pairs other.pairs
    (same_for_tables circuit tech other_tech one.pairs other.pairs one.lists other.lists))
