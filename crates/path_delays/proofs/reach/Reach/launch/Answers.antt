use Rattle.path_delays.proofs.Vocabulary.{◌≡◌, length, take, get_or, subst, arith, rules, slice_get-get_or, AllBelow, BegunIn, IsSpread}
use Rattle.path_delays.proofs.Hands.{HasReachRoom-same}
use Rattle.path_delays.proofs.LaunchLemmas.{all_within}
use Rattle.path_delays.proofs.WalkStarts.{begun_all, begun_next, begun_none, marked_bounded, start_bounded}
use Rattle.path_delays.proofs.WalkSteps.{all_bounded}
use Rattle.path_delays.proofs.reach.Reach.launch.Goals as goal

pub launched-signal-items-requires-clause-inputs : goal.launched-signal-items-requires-clause-inputs
launched-signal-items-requires-clause-inputs c =
    rw c.as_slice.ensures.value c.requires.network.inputs

pub loop-signal-init : goal.loop-signal-init
loop-signal-init c = search (arith, begun_none, slice_get-get_or)

pub mark-requires-clause-room : goal.mark-requires-clause-room
mark-requires-clause-room c =
    let room = c.loop-signal.invariant.room in
    let inside = all_within c.args.from.now.circuit.now _ c.launched-signal-items.result.now
    c.launched-signal-items.ensures c.loop-signal.signal-index 0 c.loop-signal-test.true in
    record {
      row = omega (arith, inside, c.requires.network.ranks.covers, room.lanes);
      bit = omega (arith, inside, c.requires.network.ranks.covers, room.reached);
    }

pub mark-requires-clause-sums : goal.mark-requires-clause-sums
mark-requires-clause-sums c = grind (arith, start_bounded)

pub hand_on-requires : goal.hand_on-requires
hand_on-requires c =
    let network = c.args.network.now in
    let old = c.loop-signal.self in
    let launched = c.launched-signal-items.result.now in
    let place = c.loop-signal.signal-index in
    let room = c.loop-signal.invariant.room in
    record {
      room = HasReachRoom-same network old c.mark.new.self c.mark.ensures.room room;
      inside = omega (
        arith,
        all_within c.args.from.now.circuit.now _ launched c.launched-signal-items.ensures place 0
            c.loop-signal-test.true,
        c.requires.network.ranks.covers,
      );
      reached = search rules;
      small = marked_bounded old c.mark.new.self c.args.lane.number
          (get_or launched place 0) c.start_sums-sums.result
          (rw c.start_sums-sums.ensures.sums
          (start_bounded network old c.args.from.now.tech.now room)) c.mark.ensures
          (λ given here. grind (arith, all_bounded));
    }

pub loop-signal-preserved : goal.loop-signal-preserved
loop-signal-preserved c =
    let registers = c.args.from.now.registers.now in
    let lane = c.args.lane.number in
    record {
      spread = begun_next c.args.from.now.circuit.now c.args.from.now.tech.now c.args.network.now
          c.requires.network registers lane _ (slice_get-get_or registers lane 0 c.requires.lane)
          c.launched-signal-items.result.now c.launched-signal-items.ensures
          c.loop-signal.self c.hand_on.new.self c.loop-signal.signal-index c.args.lane.low
          c.loop-signal-test.true (
            c.mark.new.self,
            rw c.start_sums-sums.ensures.sums at c.mark.ensures,
            c.hand_on.ensures.on,
          ) c.loop-signal.invariant.spread;
      room = c.hand_on.ensures.room;
    }

pub returns-clause-launched : goal.returns-clause-launched
returns-clause-launched c =
    let circuit = c.args.from.now.circuit.now in
    let tech = c.args.from.now.tech.now in
    let network = c.args.network.now in
    let registers = c.args.from.now.registers.now in
    let lane = c.args.lane.number in
    let launched = c.launched-signal-items.result.now in
    let all : c.loop-signal.signal-index ≡ length launched = omega arith in
    begun_all circuit tech network c.requires.network registers lane _
    (slice_get-get_or registers lane 0 c.requires.lane) launched c.launched-signal-items.ensures
    c.loop-signal.self
    (subst (λ n. IsSpread circuit tech network registers (BegunIn lane (take n launched))
    (AllBelow network 1) 1 c.loop-signal.self) all c.loop-signal.invariant.spread)
