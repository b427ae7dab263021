-- What is gathered is gathered from each register of the block.
use Rattle.path_delays.proofs.Vocabulary.{◌-◌, arith, rules, Capturing}
use Rattle.path_delays.proofs.CapturingLemmas.{capturing_same, gathered_from}
use Rattle.path_delays.proofs.path_search.Paths.push_block.Goals as goal

pub list_captures-requires-clause-within : goal.list_captures-requires-clause-within
list_captures-requires-clause-within c =
    let from = c.args.first in
    rw c.as_slice-registers.ensures.value (gathered_from c.self.inside.circuit.now
    c.self.inside.tech.now from (from - from) c.walk_block-end.new.self c.args.capturing.now
    c.gather.new.self
    (c.walk_block-end.ensures.reach from (omega arith) c.walk_block-end.ensures.after)
    (rw (← c.self.view_is) at c.requires.capturing)
    c.in_ok-gather.ensures).within

pub push_pairs_from-requires-clause-registers : goal.push_pairs_from-requires-clause-registers
push_pairs_from-requires-clause-registers c =
    let from = c.loop-from.from in
    rw (
      c.in_ok-list_captures.ensures.registers,
      c.as_slice-registers.ensures.value,
    )
    (gathered_from c.self.inside.circuit.now c.self.inside.tech.now from
    (from - c.args.first) c.walk_block-end.new.self c.args.capturing.now c.gather.new.self
    (c.walk_block-end.ensures.reach from (omega arith) (omega arith))
    (rw (← c.self.view_is) at c.requires.capturing)
    c.in_ok-gather.ensures)

pub returns-clause-capturing : goal.returns-clause-capturing
returns-clause-capturing c =
    let same = c.in_ok-gather.ensures.same in
    let new : Capturing = record {
      capturers = c.gather.new.self.capturers;
      captured = c.gather.new.self.captured;
      reached = c.gather.new.self.reached;
      found = c.gather.new.self.found;
      registers = c.gather.new.self.registers;
      captures = c.list_captures.new.captures;
    } in
    capturing_same c.args.self.now.circuit c.args.capturing.now new (record {
      capturers = same.capturers;
      captured = same.captured;
      reached = same.reached;
      found = same.found;
    }) c.requires.capturing

pub returns-clause-listed : goal.returns-clause-listed
returns-clause-listed c = rw (← c.self.view_is) (search rules)
