-- The sums are handed to the readers passed so far.
use Rattle.path_delays.proofs.Vocabulary.{◌≡◌, take, Lanes, HasReachRoom, AreHanded, lanes_at, limit_of, Some}
use Rattle.path_delays.proofs.reach.Reach.hand_on.Given as goal

abbrev pub invariant-loop-gate : goal.invariant-loop-gate
invariant-loop-gate l = record {
  room : HasReachRoom l.network l.self;
  limit : limit_of l.self ≡ limit_of l.initial.self;
  kept : lanes_at l.self l.signal ≡ lanes_at l.initial.self l.signal;
  handed : (given : Lanes) → lanes_at l.initial.self l.signal ≡ Some given
      → AreHanded l.network given (take l.gate-index l.gate-items) l.initial.self l.self;
}
