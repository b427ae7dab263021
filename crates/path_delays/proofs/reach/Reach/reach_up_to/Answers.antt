-- The gate of the lowest rank that waits hands on its sums.
use Rattle.path_delays.proofs.Vocabulary.{◌≡◌, ◌+◌, ◌∙◌, ℕ, length, refl, sym, arith, rules, true≢false, slice_get_within, Reach, lanes_at, rank_at, AllBelow, LanesBelow}
use Rattle.path_delays.proofs.Hands.{HasReachRoom-same}
use Rattle.path_delays.proofs.LaneLemmas.{some_is}
use Rattle.path_delays.proofs.WalkEnds.{reach_shown}
use Rattle.path_delays.proofs.WalkSteps.{all_bounded, next_gate, next_within, IsSpread-taken, IsSpread-on}
use Rattle.path_delays.proofs.reach.Reach.reach_up_to.Goals as goal

pub index-requires : goal.index-requires
index-requires c = grind (arith, next_within)

pub hand_on-requires : goal.hand_on-requires
hand_on-requires c =
    let due = c.loop-next.invariant.spread.due c.in-Some.next c.in-Some.ensures.some.held in
    let next = next_gate c.args.from.now.circuit.now c.args.from.now.tech.now c.args.network.now
    c.requires.network c.loop-next.self c.loop-next.rank c.in-Some.next c.index.result.now
    c.loop-next.invariant.counted due c.index.ensures in record {
      room = search rules;
      inside = omega (arith, next.inside, c.requires.network.ranks.covers);
      reached = next.reached;
      small = λ given here. grind (arith, all_bounded);
    }

pub loop-next-smaller : goal.loop-next-smaller
loop-next-smaller c = grind (arith, next_within)

pub loop-next-preserved : goal.loop-next-preserved
loop-next-preserved c =
    let circuit = c.args.from.now.circuit.now in
    let tech = c.args.from.now.tech.now in
    let network = c.args.network.now in
    let registers = c.args.from.now.registers.now in
    let is = c.requires.network in
    let gate = c.index.result.now in
    let due = c.loop-next.invariant.spread.due c.in-Some.next c.in-Some.ensures.some.held in
    let next = next_gate circuit tech network is c.loop-next.self c.loop-next.rank
    c.in-Some.next gate c.loop-next.invariant.counted due c.index.ensures in
    let taken : Reach = record {
      reached = c.loop-next.self.reached;
      lanes = c.loop-next.self.lanes;
      waiting = c.take_lowest.new.self;
    } in
    let Begun = LanesBelow (length registers) in
    let pending = IsSpread-taken circuit tech network is registers Begun c.loop-next.self taken
    c.loop-next.rank c.in-Some.next gate c.loop-next.invariant.counted due.after
    c.in-Some.ensures.some (λ (signal : ℕ). refl) next.rank c.loop-next.invariant.spread in
    let given = some_is (lanes_at c.loop-next.self gate) next.reached in
    let one_more : rank_at network gate + 1 ≡ c.in-Some.next + 1 = omega (arith, next.rank) in
    record {
      spread = IsSpread-on circuit tech network is registers Begun taken c.hand_on.new.self
          (c.in-Some.next + 1) gate given.0 one_more next.inside given.1 pending
          c.hand_on.ensures.on;
      room = c.hand_on.ensures.room;
      counted = omega arith;
    }

pub returns-then-next-top-clause-reach : goal.returns-then-next-top-clause-reach
returns-then-next-top-clause-reach c lane from signal here below =
    let registers = c.args.from.now.registers.now in
    let within = slice_get_within registers lane from here in
    reach_shown c.args.from.now.circuit.now c.args.from.now.tech.now registers from lane here
    c.args.network.now c.requires.network c.loop-next.self c.loop-next.rank within
    (omega (arith, within, c.args.from.now.few)) c.loop-next.invariant.spread c.args.top
    (λ other waits. omega (arith, c.if-next-top.true, c.in-Some.ensures.some.lowest other waits))
    signal below

pub returns-then-next-top-clause-bounded : goal.returns-then-next-top-clause-bounded
returns-then-next-top-clause-bounded c =
    all_bounded c.args.from.now.circuit.now c.args.from.now.tech.now c.args.network.now
    c.requires.network c.args.from.now.registers.now
    (LanesBelow (length c.args.from.now.registers.now)) c.loop-next.self c.loop-next.rank
    (AllBelow c.args.network.now c.loop-next.rank) c.loop-next.invariant.room
    c.loop-next.invariant.spread

pub returns : goal.returns
returns c =
    let registers = c.args.from.now.registers.now in
    let taken : Reach = record {
      reached = c.loop-next.self.reached;
      lanes = c.loop-next.self.lanes;
      waiting = c.take_lowest.new.self;
    } in
    record {
      reach = λ lane from signal here below.
          let within = slice_get_within registers lane from here in
          reach_shown c.args.from.now.circuit.now c.args.from.now.tech.now registers from lane here
          c.args.network.now c.requires.network c.loop-next.self c.loop-next.rank within
          (omega (arith, within, c.args.from.now.few)) c.loop-next.invariant.spread c.args.top
          (λ other waits. absurd (true≢false (sym waits ∙ c.in_default.ensures.none other))) signal
          below;
      room = HasReachRoom-same c.args.network.now c.loop-next.self taken
          (record {
            lanes = refl;
            reached = refl;
            waiting = c.in_default.ensures.covers;
            limit = refl;
          })
          c.loop-next.invariant.room;
      bounded = all_bounded c.args.from.now.circuit.now c.args.from.now.tech.now
          c.args.network.now c.requires.network registers (LanesBelow (length registers))
          c.loop-next.self c.loop-next.rank (AllBelow c.args.network.now c.loop-next.rank)
          c.loop-next.invariant.room c.loop-next.invariant.spread;
    }
