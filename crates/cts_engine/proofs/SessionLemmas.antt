-- The session of a problem: what it stands for, and how large its grid is.
use Rattle.cts_engine.proofs.Vocabulary.{◌≡◌, ◌<◌, ◌≤◌, ◌*◌, ◌^◌, ◌∙◌, ℕ, zero, suc, ℤ, pos, ◌*ℤ◌, to_z, of_z, List, [], ◌∷◌, length, slice_set, refl, ap, ap₂, sym, subst, arith, nat_abs, unsigned_abs, ints, mul-le, length-set, w128, Fraction, Point, Uv, Problem, Schedule, Tech, Merge, IsGreedy, IsBelow, IsPointBelow, rotated, grid_of, on_grid, sink_of, sinks_of, IsSmallPeriod, IsWithin, grid_size, number_read, product_size, size_same, length-sinks_of, AreTimedSinks}
use Rattle.move_session.specs.Sessions.{SessionState, StandsFor, moved_sinks}
use Rattle.cts_engine.specs.SessionOutcomes.{IsSessionOf, StandsAt}
use Rattle.cts_engine.specs.declared.sink_times.TimedSinks.{TimedSinks}

-- a length unit has some grid steps, and not too many
pub grid_within : (period : Fraction) (tech : Tech) → IsSmallPeriod period
    → IsWithin 1 (10 ^ 17) (grid_of period tech)
grid_within period tech small =
    let den = nat_abs period.den in
    let num = nat_abs tech.wire_num in
    let den_is = size_same period.den (omega (arith, ints, period.lowest.some_den)) in
    let num_is = size_same tech.wire_num (omega (arith, ints, tech.valid.wire_num_within)) in
    let is : pos (1000000 * (8 * den * num)) ≡ grid_of period tech =
    λ i. pos 1000000 *ℤ (pos 8 *ℤ den_is i *ℤ num_is i) in
    let some_den : 1 ≤ den = omega (arith, ints, den_is, period.lowest.some_den) in
    let some_num : 1 ≤ num = omega (arith, ints, num_is, tech.valid.wire_num_within) in
    let some : 8 * 1 ≤ 8 * den * num =
    mul-le 8 1 (8 * den) num (omega (arith, some_den)) some_num in
    let size : 1000000 * (8 * den * num) ≤ 32776000000000000 =
    subst (λ z. unsigned_abs z ≤ 32776000000000000) (sym is) (grid_size period tech small) in
    subst (IsWithin 1 (10 ^ 17)) is (record {
      above = omega (arith, ints, some);
      below = omega (arith, ints, size);
    })

-- a session over a problem's timed sinks with their greedy merges is the problem's
pub session_is : (problem : Problem) (timed : TimedSinks) (merges : List Merge)
    (session : SessionState) (grid : ℤ) → AreTimedSinks problem timed → IsGreedy timed.sinks merges
    → StandsFor timed.sinks merges
    (rotated (on_grid timed.period problem.tech problem.places.source)) session
    → session.renewals ≡ length merges → grid ≡ grid_of timed.period problem.tech
    → IsSessionOf problem session grid
session_is problem timed merges session grid are greedy stands renewals grid_is =
    let source : Uv = rotated (on_grid timed.period problem.tech problem.places.source) in
    let kept = subst (λ list. StandsFor timed.sinks list source session)
    (sym stands.merges_are) stands in
    record {
      period = timed.period;
      least_period = are.least.least;
      schedule = timed.times.schedule;
      least_schedule = are.at_times.schedule;
      stands = subst (λ sinks. StandsFor sinks session.merges source session) are.sinks_are kept;
      greedy = subst (λ sinks. IsGreedy sinks session.merges) (sym stands.sinks_are)
          (subst (IsGreedy timed.sinks) (sym stands.merges_are) greedy);
      renewals = renewals ∙ ap length (sym stands.merges_are);
      grid_is = grid_is;
    }

-- ---- moves

-- a product with a coordinate, as the code keeps it
kept_product : (steps coordinate product : ℤ) → unsigned_abs steps ≤ 100000000000
    → IsBelow 1000000000000001 coordinate
    → product ≡ (to_z w128 (of_z w128 steps) *ℤ to_z w128 (of_z w128 coordinate))
    → to_z w128 (of_z w128 product) ≡ steps *ℤ coordinate
kept_product steps coordinate product small near is =
    search (arith, number_read, ints, product_size)

-- and how large it is
product_below : (steps coordinate : ℤ) → unsigned_abs steps ≤ 100000000000
    → IsBelow 1000000000000001 coordinate → IsBelow (10 ^ 27) (steps *ℤ coordinate)
product_below steps coordinate small near =
    let size = product_size steps coordinate 100000000000 1000000000000000 small
    (omega (arith, ints, near)) in
    record { above = omega (arith, ints, size); below = omega (arith, ints, size) }

-- a place in steps, as the code keeps it
pub record IsKeptPlace (steps : ℤ) (at place : Point) : Type 0 where
  pub is : place ≡ record { x = steps *ℤ at.x; y = steps *ℤ at.y }
  pub below : IsPointBelow (10 ^ 27) place

pub kept_place : (steps x y : ℤ) (at : Point) → unsigned_abs steps ≤ 100000000000
    → IsPointBelow 1000000000000001 at
    → x ≡ (to_z w128 (of_z w128 steps) *ℤ to_z w128 (of_z w128 at.x))
    → y ≡ (to_z w128 (of_z w128 steps) *ℤ to_z w128 (of_z w128 at.y)) → IsKeptPlace steps at
    (record { x = to_z w128 (of_z w128 x); y = to_z w128 (of_z w128 y) })
kept_place steps x y at small near first second =
    let x_is = kept_product steps at.x x small near.x first in
    let y_is = kept_product steps at.y y small near.y second in
    record {
      is = λ i. record { x = x_is i; y = y_is i };
      below = record {
        x = subst (IsBelow (10 ^ 27)) (sym x_is) (product_below steps at.x small near.x);
        y = subst (IsBelow (10 ^ 27)) (sym y_is) (product_below steps at.y small near.y);
      };
    }

-- a sink at another place is its register with that place
sinks_of_moved : (period : Fraction) (tech : Tech) (places : List Point) (at : List ℤ)
    (register : ℕ) (to : Point) → length places ≡ length at → register < length places
    → moved_sinks (sinks_of period tech places at) register (rotated (on_grid period tech to))
    ≡ sinks_of period tech (slice_set places register to) at
sinks_of_moved period tech [] at register to same within = absurd (omega (arith, within))
sinks_of_moved period tech (place ∷ places) [] register to same within =
    absurd (omega (arith, same))
sinks_of_moved period tech (place ∷ places) (arrival ∷ at) zero to same within = refl
sinks_of_moved period tech (place ∷ places) (arrival ∷ at) (suc register) to same within =
    ap (λ sinks. sink_of period tech place arrival ∷ sinks)
    (sinks_of_moved period tech places at register to (omega (arith, same))
    (omega (arith, within)))

-- so a session whose sink is moved stands for the registers with that place
pub moved_stands : (problem : Problem) (period : Fraction) (schedule : Schedule)
    (merges : List Merge) (grid : ℤ) (places : List Point) (register : ℕ) (to : Point) (uv : Uv)
    (session moved : SessionState) → register < length session.sinks
    → StandsAt problem period schedule merges grid places session
    → (grid ≡ grid_of period problem.tech → uv ≡ rotated (on_grid period problem.tech to))
    → StandsFor (moved_sinks session.sinks register uv) session.merges session.source moved
    → StandsAt problem period schedule merges grid (slice_set places register to) moved
moved_stands problem period schedule merges grid places register to uv session moved within at is
    stands =
    let tech = problem.tech in
    let sinks = sinks_of period tech places schedule.at in
    let source : Uv = rotated (on_grid period tech problem.places.source) in
    let count = length-sinks_of period tech places schedule.at at.as_many in
    let low : register < length places =
    omega (arith, within, count, at.as_many, ap length at.stands.sinks_are) in
    let sinks_are : moved_sinks session.sinks register uv
    ≡ sinks_of period tech (slice_set places register to) schedule.at =
    ap₂ (λ list place. moved_sinks list register place) at.stands.sinks_are (is at.grid_is)
    ∙ sinks_of_moved period tech places schedule.at register to at.as_many low in
    record {
      stands = subst (λ list. StandsFor list merges source moved) sinks_are
          (subst (λ list. StandsFor (moved_sinks session.sinks register uv) list source moved)
          at.stands.merges_are
          (subst (λ s. StandsFor (moved_sinks session.sinks register uv) session.merges s moved)
          at.stands.source_is stands));
      grid_is = at.grid_is;
      as_many = length-set places register to ∙ at.as_many;
    }
