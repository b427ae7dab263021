-- One reader more.
use Rattle.path_delays.proofs.Vocabulary.{◌≡◌, ℕ, List, Option, Some, length, take, get_or, refl, sym, ◌∙◌, ap, subst, arith, IsSome, take_all, take_more, Lanes, IsHanded, lanes_at}
use Rattle.path_delays.proofs.Hands.{HasReachRoom-same, AreHanded-push}
use Rattle.path_delays.proofs.LaneLemmas.{some_is}
use Rattle.path_delays.proofs.reach.Reach.hand_on.Goals as goal

pub loop-gate-init : goal.loop-gate-init
loop-gate-init c =
    record { room = c.requires.room; limit = refl; kept = refl; handed = λ given here. refl }

pub hand_to-requires-clause-signal : goal.hand_to-requires-clause-signal
hand_to-requires-clause-signal c = record {
  room = c.loop-gate.invariant.room;
  inside = c.requires.inside;
  reached =
      subst (λ (o : Option Lanes). IsSome o) (sym c.loop-gate.invariant.kept) c.requires.reached;
  small = λ given here. grind (arith);
}

pub loop-gate-preserved : goal.loop-gate-preserved
loop-gate-preserved c =
    let readers = c.group-gate-items.result.now in
    let network = c.args.network.now in
    let gate = get_or readers c.loop-gate.gate-index 0 in
    let handed : (given : Lanes) → lanes_at c.args.self.now c.args.signal ≡ Some given
    → IsHanded network given gate c.loop-gate.self c.hand_to.new.self =
    λ given here. c.hand_to.ensures given (c.loop-gate.invariant.kept ∙ here) in
    let found = some_is (lanes_at c.args.self.now c.args.signal) c.requires.reached in
    let one = handed found.0 found.1 in
    let apart = c.requires.room.apart c.args.signal c.requires.inside c.loop-gate.gate-index 0
    (omega (arith, ap length c.group-gate-items.ensures, c.loop-gate-test.true)) in
    record {
      room = HasReachRoom-same network c.loop-gate.self c.hand_to.new.self one.room
          c.loop-gate.invariant.room;
      limit = one.room.limit ∙ c.loop-gate.invariant.limit;
      kept = one.others c.args.signal (λ same. apart
          (ap (λ (list : List ℕ). get_or list c.loop-gate.gate-index 0)
          (sym c.group-gate-items.ensures) ∙ sym same)) ∙ c.loop-gate.invariant.kept;
      handed = λ given here. rw (take_more readers c.loop-gate.gate-index 0 c.loop-gate-test.true)
          (AreHanded-push network given (take c.loop-gate.gate-index readers) gate
          c.args.self.now c.loop-gate.self c.hand_to.new.self
          (c.loop-gate.invariant.handed given here) (handed given here));
    }

pub returns-clause-on : goal.returns-clause-on
returns-clause-on c given here = grind (arith, take_all)
