-- One gate more, and all of them.
use Rattle.path_delays.proofs.Vocabulary.{◌≡◌, length, replicate, get_or, refl, ap, subst, arith, rules, gate_within}
use Rattle.path_delays.proofs.NetworkLemmas.{ArePlaces, ArePlaces-none, ArePlaces-more, AreRanks-placed, few_gates}
use Rattle.path_delays.proofs.network.Network.ranks.Goals as goal

pub loop-place-init : goal.loop-place-init
loop-place-init c =
    let none : c.in_ok-ranks.ranks.items ≡ replicate c.len.result 0 = search rules in
    record {
      places = rw (none, c.len.ensures)
          (ArePlaces-none (length c.args.circuit.now.signals) c.args.levels.now);
      few = few_gates c.args.circuit.now c.args.levels.now c.requires;
    }

pub index_mut-requires : goal.index_mut-requires
index_mut-requires c = grind (arith, gate_within)

pub loop-place-preserved : goal.loop-place-preserved
loop-place-preserved c =
    let signals = c.args.circuit.now.signals in
    let order = c.args.levels.now in
    let place = c.loop-place.place in
    let inside = rw c.gates-gate-items.ensures at c.loop-place-test.true in
    record {
      places = rw c.gates-gate-items.ensures
          (ArePlaces-more (length signals) order place c.loop-place.ranks.items
          (get_or order place 0) c.requires.once inside refl
          (gate_within signals (get_or order place 0) (c.requires.gates place 0 inside))
          c.loop-place.invariant.places);
      few = c.loop-place.invariant.few;
    }

pub returns : goal.returns
returns c =
    let signals = c.args.circuit.now.signals in
    let order = c.args.levels.now in
    let all : c.loop-place.place ≡ length order =
    omega (arith, ap length c.gates-gate-items.ensures) in
    AreRanks-placed signals order c.loop-place.ranks.items c.requires
    (subst (λ n. ArePlaces (length signals) order n c.loop-place.ranks.items) all
    c.loop-place.invariant.places)
