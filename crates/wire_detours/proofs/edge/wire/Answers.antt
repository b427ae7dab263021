use Rattle.wire_detours.proofs.Vocabulary.{◌≡◌, ◌+ℤ◌, sym, subst, rules, arith, ints, distance, HasDetour}
use Rattle.wire_detours.proofs.DetourLemmas.{kept, IsHalfBeyond, beyond_fits, beyond_even, half_beyond, side_short}
use Rattle.wire_detours.proofs.TableLemmas.{IsEdgeWire, wire_shortest, wire_around, wire_beside, wire_round}
use Rattle.wire_detours.proofs.edge.wire.Goals as goal
use Rattle.wire_detours.proofs.edge.wire.Goals.{After-half}

pub overflow_sub-length : goal.overflow_sub-length
overflow_sub-length c =
    beyond_fits c.args.from c.args.to _ _ c.manhattan.ensures.value c.requires.enough
    c.requires.below

pub half-requires : goal.half-requires
half-requires c =
    beyond_even c.args.from c.args.to _ _ c.manhattan.ensures.value c.requires.enough
    c.requires.below c.requires.multiple c.requires.distance_multiple

-- what is known of the half
half : (c : After-half)
    → IsHalfBeyond (distance c.args.from c.args.to) c.args.length (kept c.half.result)
half c =
    half_beyond c.args.from c.args.to _ _ c.manhattan.ensures.value c.requires.enough
    c.requires.below _ c.half.ensures

pub invariant_of-detour-clause-short : goal.invariant_of-detour-clause-short
invariant_of-detour-clause-short c =
    (half (goal.at.invariant_of-detour-clause-short c).After-half).short

pub invariant_of-detour-then-from-to-2-clause-short
    : goal.invariant_of-detour-then-from-to-2-clause-short
invariant_of-detour-then-from-to-2-clause-short c =
    (half (goal.at.invariant_of-detour-then-from-to-2-clause-short c).After-half).short

pub half-requires-else-from-to-2 : goal.half-requires-else-from-to-2
half-requires-else-from-to-2 c =
    let by = half (goal.at.half-requires-else-from-to-2 c).After-half in
    omega (arith, ints)

pub invariant_of-square-clause-short : goal.invariant_of-square-clause-short
invariant_of-square-clause-short c =
    side_short _ _ _ _ (half (goal.at.invariant_of-square-clause-short c).After-half)
    c.half-else-from-to-2.ensures

pub returns-then-detour-eq0 : goal.returns-then-detour-eq0
returns-then-detour-eq0 c =
    let by = half (goal.at.returns-then-detour-eq0 c).After-half in
    let shortest = c.shortest.ensures in
    let is : c.args.length ≡ distance c.args.from c.args.to =
    omega (arith, ints) in
    let made = wire_shortest c.args.from c.args.to c.args.length c.shortest.result is
    shortest.place shortest.upright shortest.level shortest.bent in
    record { drawn = made.drawn; points = made.points; padded = made.padded; used = made.used }

pub returns-then-from-to : goal.returns-then-from-to
returns-then-from-to c =
    let by = half (goal.at.returns-then-from-to c).After-half in
    let has : HasDetour c.args.from c.args.to c.args.length (kept c.half.result) = record {
      positive = omega (arith, ints);
      twice = by.twice;
    } in
    let made = wire_around c.args.from c.args.to c.args.length _ c.around.result has
    (search rules) c.around.ensures.under c.around.ensures.over in
    record { drawn = made.drawn; points = made.points; padded = made.padded; used = made.used }

pub returns-then-from-to-2 : goal.returns-then-from-to-2
returns-then-from-to-2 c =
    let by = half (goal.at.returns-then-from-to-2 c).After-half in
    let has : HasDetour c.args.from c.args.to c.args.length (kept c.half.result) = record {
      positive = omega (arith, ints);
      twice = by.twice;
    } in
    let made = subst (IsEdgeWire c.args.from c.args.to c.args.length) (sym c.beside.ensures)
    (wire_beside c.args.from c.args.to c.args.length _ has (search rules) (search rules)) in
    record { drawn = made.drawn; points = made.points; padded = made.padded; used = made.used }

pub returns-else-from-to-2 : goal.returns-else-from-to-2
returns-else-from-to-2 c =
    let by = half (goal.at.returns-else-from-to-2 c).After-half in
    let halves = c.half-else-from-to-2.ensures in
    let side = kept c.half-else-from-to-2.result in
    let has : HasDetour c.args.from c.args.to c.args.length (side +ℤ side) = record {
      positive = omega (arith, ints);
      twice = omega (arith, ints);
    } in
    let made = subst (IsEdgeWire c.args.from c.args.to c.args.length) (sym c.round.ensures)
    (wire_round c.args.from c.args.to c.args.length side has (search rules) (search rules)) in
    record { drawn = made.drawn; points = made.points; padded = made.padded; used = made.used }
