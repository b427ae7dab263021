-- The registers of one signal more; where no signal waits, they become the list.
use Rattle.path_delays.proofs.Vocabulary.{refl, arith, Capturing, NumberSet, common_steps}
use Rattle.path_delays.proofs.CapturingLemmas.{HasCaptureRoom-same, gathered_all, gathering_next, gathering_room}
use Rattle.path_delays.proofs.capturing.Capturing.gather.Goals as goal

-- where the walk through the signals begins
abbrev begun_with : Capturing → (reached found : NumberSet) → Capturing
begun_with capturing reached found = record {
  capturers = capturing.capturers;
  captured = capturing.captured;
  reached = reached;
  found = found;
  registers = capturing.registers;
  captures = capturing.captures;
}

pub insert_all-requires : goal.insert_all-requires
insert_all-requires c =
    let begun = begun_with c.args.self.now c.become_common.new.self c.clear.new.self in
    let room = HasCaptureRoom-same c.args.self.now begun
    (record {
      capturers = refl;
      captured = refl;
      reached = c.become_common.ensures.covers;
      found = c.clear.ensures.covers;
    }) c.requires.room in
    rw c.group.ensures (gathering_room c.args.walk.now begun c.loop-signal.self c.loop-signal.next
    c.in-Some.signal room c.loop-signal.invariant c.in-Some.ensures.some.held)

pub loop-signal-preserved : goal.loop-signal-preserved
loop-signal-preserved c =
    let begun = begun_with c.args.self.now c.become_common.new.self c.clear.new.self in
    let later : Capturing = record {
      capturers = c.loop-signal.self.capturers;
      captured = c.loop-signal.self.captured;
      reached = c.take_lowest.new.self;
      found = c.insert_all.new.self;
      registers = c.loop-signal.self.registers;
      captures = c.loop-signal.self.captures;
    } in
    gathering_next c.args.walk.now begun c.loop-signal.self later c.loop-signal.next
    c.in-Some.signal
    (record {
      capturers = refl;
      captured = refl;
      reached = c.in-Some.ensures.covers;
      found = c.insert_all.ensures.covers;
    }) c.in-Some.ensures.some (rw c.group.ensures at c.insert_all.ensures) c.loop-signal.invariant

pub returns : goal.returns
returns c =
    let begun = begun_with c.args.self.now c.become_common.new.self c.clear.new.self in
    let last : Capturing = record {
      capturers = c.loop-signal.self.capturers;
      captured = c.loop-signal.self.captured;
      reached = c.take_lowest.new.self;
      found = c.take_all.new.self;
      registers = c.take_all.new.numbers;
      captures = c.loop-signal.self.captures;
    } in
    gathered_all c.args.walk.now begun c.args.self.now c.loop-signal.self last c.loop-signal.next
    (record {
      capturers = refl;
      captured = refl;
      reached = c.become_common.ensures.covers;
      found = c.clear.ensures.covers;
    })
    (record {
      capturers = refl;
      captured = refl;
      reached = c.in_default.ensures.covers;
      found = c.in_ok-take_all.ensures.covers;
    }) c.in_default.ensures.none c.in_ok-take_all.ensures.listed c.loop-signal.invariant

pub loop-signal-init : goal.loop-signal-init
loop-signal-init c = grind (arith, common_steps)

pub overflow_add-next : goal.overflow_add-next
overflow_add-next c = grind (arith, common_steps)

pub loop-signal-smaller : goal.loop-signal-smaller
loop-signal-smaller c = grind (arith, common_steps)
