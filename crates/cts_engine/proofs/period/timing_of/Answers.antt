use Rattle.cts_engine.proofs.Vocabulary.{◌≡◌, ◌∙◌, to_z, of_z, arith, w128, ints, AreConstraintsOf}
use Rattle.cts_engine.proofs.DelayLemmas.{small_pairs}
use Rattle.cts_engine.proofs.OutcomeLemmas.{forbidden_by_cycle, least_of_circuit, shown_by_cycle, whole_fraction}
use Rattle.cts_engine.proofs.period.timing_of.Goals as goal

pub returns-in_ok-constraints_at-in-Cycle : goal.returns-in_ok-constraints_at-in-Cycle
returns-in_ok-constraints_at-in-Cycle c =
    let circuit = c.args.circuit.now in
    let made = c.in_ok-constraints.ensures in
    let are : AreConstraintsOf circuit c.args.tech.now c.in_ok-constraints.constraints = record {
      each = made.each circuit c.requires.lists;
      meets = made.meets circuit c.requires.lists;
    } in
    let floor : to_z w128 (of_z w128 c.args.tech.now.floor) ≡ c.args.tech.now.floor =
    omega (arith, ints, c.args.tech.now.valid.floor_within) in
    let shown = rw (floor, c.in-Cycle.is) at c.in_ok-value.ensures.period in
    rw c.in_ok-constraints_at-in-Cycle.ensures (
      record {
        constraints_are = are;
        small = made.registers circuit c.requires.lists c.requires.few;
        delays = small_pairs circuit c.args.tech.now c.args.pairs.now c.requires;
        least = least_of_circuit are _ _ shown.least;
        is_shown = shown_by_cycle are _ _ shown;
        range = rw c.in-Cycle.is at c.in_ok-value.ensures.small;
      },
      shown.lowest,
    )

pub returns-in-Floor : goal.returns-in-Floor
returns-in-Floor c =
    let circuit = c.args.circuit.now in
    let made = c.in_ok-constraints.ensures in
    let are : AreConstraintsOf circuit c.args.tech.now c.in_ok-constraints.constraints = record {
      each = made.each circuit c.requires.lists;
      meets = made.meets circuit c.requires.lists;
    } in
    let within = c.args.tech.now.valid.floor_within in
    let floor : to_z w128 (of_z w128 c.args.tech.now.floor) ≡ c.args.tech.now.floor =
    omega (arith, ints, within) in
    let is = whole_fraction _ _ _ c.of.result.lowest.some_den c.of.ensures.den c.of.ensures.value in
    let value : c.of.result.num ≡ c.args.tech.now.floor = is.0 ∙ floor in (
      record {
        constraints_are = are;
        small = made.registers circuit c.requires.lists c.requires.few;
        delays = small_pairs circuit c.args.tech.now c.args.pairs.now c.requires;
        least = rw (value, is.1)
            (least_of_circuit are _ _ (rw (floor, c.in-Floor.is) at c.in_ok-value.ensures.period));
        is_shown = record { value = value; whole = is.1 };
        range = record {
          from_zero = omega (arith, ints, within, value);
          small = omega (arith, ints, within, value);
          low = omega (arith, ints, c.of.ensures.den);
        };
      },
      tt,
    )

pub returns-in_ok-constraints_at-in-Never : goal.returns-in_ok-constraints_at-in-Never
returns-in_ok-constraints_at-in-Never c =
    let circuit = c.args.circuit.now in
    let made = c.in_ok-constraints.ensures in
    let are : AreConstraintsOf circuit c.args.tech.now c.in_ok-constraints.constraints = record {
      each = made.each circuit c.requires.lists;
      meets = made.meets circuit c.requires.lists;
    } in
    let forbidden = rw c.in-Never.is at c.in_ok-value.ensures.period in
    rw c.in_ok-constraints_at-in-Never.ensures
    (forbidden_by_cycle are _ forbidden, forbidden.lowest)
