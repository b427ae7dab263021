-- What the constraints of all joined pairs say of the paths.
use Rattle.std.proofs.Common.{◌≡◌, ◌<◌, ◌≤◌, ℕ, ℤ, ◌+ℤ◌, ◌-ℤ◌, ◌≤ℤ◌, List, length, get_or, ap, subst, arith}
use Rattle.std.specs.List.{All}
use Rattle.std.proofs.lemmas.Int.{ints}
use Rattle.std.proofs.lemmas.List.Elements.{All-weaker}
use Rattle.cts_model.specs.declared.circuit.Circuit.{Circuit}
use Rattle.cts_model.specs.declared.tech.Tech.{Tech}
use Rattle.cts_model.specs.declared.timing.PairDelay.{PairDelay}
use Rattle.cts_model.specs.declared.constraint.Constraint.{Constraint}
use Rattle.cts_model.specs.Vocabulary.{IsPath, least_delay, greatest_delay, IsPairDelay, Meets, ListsPairs, IsSmallPair, IsSatisfied, Satisfies, IsConstraintOf, IsSmallConstraint, AreSmallConstraints}
use Rattle.cts_model.proofs.PathRegisters.{launches_within, captures_within}
use Rattle.constraints.specs.PairConstraints.{constraints_of_pairs, AreFewPairs}
use Rattle.constraints.proofs.BothOfPairs.{HaveBoth, all_from_each, each_from_all, two_for_each}
use Rattle.constraints.proofs.PairInequalities.{setup_met, hold_met, setup_satisfied, hold_satisfied}

module _ (circuit : Circuit) (tech : Tech) where
  -- the constraints of a pair with the delays over all its paths are constraints of the circuit
  both_of_circuit : (pair : PairDelay) → IsPairDelay circuit tech pair
      → HaveBoth tech (IsConstraintOf circuit tech) pair
  both_of_circuit pair delays = (
    record {
      path = delays.greatest_shown.0;
      joins = delays.greatest_shown.1;
      weight_is = ap (λ delay. delay +ℤ tech.setup) delays.greatest_shown.2;
      greatest = λ other is_path. rw delays.greatest_shown.2 (delays.greatest other is_path);
    },
    record {
      path = delays.least_shown.0;
      joins = delays.least_shown.1;
      weight_is = ap (λ delay. tech.hold -ℤ delay) delays.least_shown.2;
      least = λ other is_path. rw delays.least_shown.2 (delays.least other is_path);
    },
  )

  -- where both inequalities are met, both constraints of the pair are satisfied
  both_satisfied : (scale : ℕ) (period : ℤ) (arrival : ℕ → ℤ)
      → Meets circuit tech scale period arrival → (pair : PairDelay) → IsPairDelay circuit tech pair
      → HaveBoth tech (IsSatisfied scale period arrival) pair
  both_satisfied scale period arrival meets pair delays =
      let launch = arrival pair.from in
      let capture = arrival pair.to in
      let longest = delays.greatest_shown in
      let shortest = delays.least_shown in (
        setup_satisfied scale launch capture pair.greatest tech.setup period
            (rw longest.2 at (meets.setup pair.from pair.to longest.0 longest.1)),
        hold_satisfied scale launch capture pair.least tech.hold period
            (rw shortest.2 at (meets.hold pair.from pair.to shortest.0 shortest.1)),
      )

module _ {circuit : Circuit} {tech : Tech} {pairs : List PairDelay}
    (lists : ListsPairs circuit tech pairs) where
  -- what both constraints of each pair have that has its delays over all paths, all have
  all_from_delays : (Property : Constraint → Type 0)
      → ((pair : PairDelay) → IsPairDelay circuit tech pair → HaveBoth tech Property pair)
      → All Property (constraints_of_pairs tech pairs)
  all_from_delays Property both = all_from_each tech Property pairs
      (All-weaker (IsPairDelay circuit tech) (HaveBoth tech Property) both pairs lists.delays)

  -- all are constraints of the circuit
  pub each_of_circuit : All (IsConstraintOf circuit tech) (constraints_of_pairs tech pairs)
  each_of_circuit = all_from_delays (IsConstraintOf circuit tech) (both_of_circuit circuit tech)

  -- listed pairs within the limit are few
  pub few_of_listed : length pairs ≤ 1048576 → AreFewPairs (length circuit.registers) pairs
  few_of_listed few = record {
    some = omega (arith, circuit.valid.some_register);
    not_many = grind (arith, circuit.valid.few_registers);
    few = few;
    from = launches_within lists;
    to = captures_within lists;
  }

  module _ (scale : ℕ) (period : ℤ) (arrival : ℕ → ℤ) where
    -- where both inequalities are met, all are satisfied
    pub satisfied_where_met : Meets circuit tech scale period arrival
        → Satisfies (constraints_of_pairs tech pairs) scale period arrival
    satisfied_where_met meets = all_from_delays (IsSatisfied scale period arrival)
        (both_satisfied circuit tech scale period arrival meets)

    -- the pair of a path, both of whose constraints are satisfied
    record IsSatisfiedPath (from to : ℕ) (path : List ℕ) : Type 0 where
      pair : PairDelay
      from_is : pair.from ≡ from
      to_is : pair.to ≡ to
      least : pair.least ≤ℤ least_delay circuit tech path
      greatest : greatest_delay circuit tech path ≤ℤ pair.greatest
      both : HaveBoth tech (IsSatisfied scale period arrival) pair

    -- where all are satisfied, every path has such a pair
    satisfied_path : Satisfies (constraints_of_pairs tech pairs) scale period arrival
        → (from to : ℕ) (path : List ℕ) → IsPath circuit from to path → IsSatisfiedPath from to path
    satisfied_path satisfied from to path is_path =
        let Satisfied = IsSatisfied scale period arrival in
        let (place, pair, within, here, (from_is, to_is)) = lists.all from to path is_path in
        let delays : IsPairDelay circuit tech pair =
        subst (IsPairDelay circuit tech) here (lists.delays place pair within) in
        let its_path : IsPath circuit pair.from pair.to path = rw (from_is, to_is) is_path in
        let both = each_from_all tech Satisfied pairs satisfied place pair within in
        record {
          pair = pair;
          from_is = from_is;
          to_is = to_is;
          least = delays.least path its_path;
          greatest = delays.greatest path its_path;
          both = subst (HaveBoth tech Satisfied) here both;
        }

    -- and both inequalities are met
    pub met_where_satisfied : Satisfies (constraints_of_pairs tech pairs) scale period arrival
        → Meets circuit tech scale period arrival
    met_where_satisfied satisfied = record {
      setup = λ from to path is_path.
          let found = satisfied_path satisfied from to path is_path in
          let pair = found.pair in
          let met = setup_met scale (arrival pair.from) (arrival pair.to) pair.greatest
          (greatest_delay circuit tech path) tech.setup period found.greatest found.both.0 in
          rw (found.from_is, found.to_is) at met;
      hold = λ from to path is_path.
          let found = satisfied_path satisfied from to path is_path in
          let pair = found.pair in
          let met = hold_met scale (arrival pair.from) (arrival pair.to) pair.least
          (least_delay circuit tech path) tech.hold period found.least found.both.1 in
          rw (found.from_is, found.to_is) at met;
    }

-- the constraints of a pair with small delays are small
both_small : (registers : ℕ) (tech : Tech) (pair : PairDelay) → pair.from < registers
    → pair.to < registers → IsSmallPair pair → HaveBoth tech (IsSmallConstraint registers) pair
both_small registers tech pair from to small =
    let setup = tech.valid.setup_within in
    let hold = tech.valid.hold_within in
    let greatest = small.greatest in
    let least = small.least in (
      record {
        tail = from;
        head = to;
        weight = record { above = omega (arith, ints); below = omega (arith, ints) };
      },
      record {
        tail = to;
        head = from;
        weight = record { above = omega (arith, ints); below = omega (arith, ints) };
      },
    )

-- and so are those of few such pairs
pub small_of_few : (tech : Tech) {registers : ℕ} {pairs : List PairDelay} → All IsSmallPair pairs
    → AreFewPairs registers pairs → AreSmallConstraints registers (constraints_of_pairs tech pairs)
small_of_few tech {registers} {pairs} small are_few = record {
  some = are_few.some;
  not_many = are_few.not_many;
  few = omega (arith, two_for_each tech pairs, are_few.few);
  each = all_from_each tech (IsSmallConstraint registers) pairs
      (λ place pair within. both_small registers tech (get_or pairs place pair)
      (are_few.from place pair within) (are_few.to place pair within) (small place pair within));
}
