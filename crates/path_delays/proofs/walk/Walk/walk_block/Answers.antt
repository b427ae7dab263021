-- The lanes of the block hold its registers, and nothing that is captured has a higher rank.
use Rattle.path_delays.proofs.Vocabulary.{◌≡◌, ◌+◌, ◌-◌, ◌<◌, length, take, get_or, Some, ◌∙◌, ap, arith, rules, cases_lt, length-set, length-take, get_or-set_same, get_or-set_other, get_or-take, get_or_default, slice_get-get_or}
use Rattle.path_delays.proofs.walk.Walk.walk_block.Goals as goal

pub invariant_of-launches : goal.invariant_of-launches
invariant_of-launches c = record {
  few = search rules;
  within = λ k d inside. grind (arith, length-take, get_or-take, get_or_default);
}

pub loop-from-preserved : goal.loop-from-preserved
loop-from-preserved c = grind (arith, cases_lt, length-set, get_or-set_same, get_or-set_other)

pub returns-clause-reach : goal.returns-clause-reach
returns-clause-reach c from after before =
    let count = c.block_end-end.result - c.args.first in
    let registers = c.loop-from.registers in
    let lane = from - c.args.first in
    let here : c.args.first + lane ≡ from = omega arith in
    let covered = length-take count registers in
    let inside : lane < length (take count registers) =
    omega (arith, covered, c.loop-from.invariant.lanes, c.block_end-end.ensures.few) in
    let value : get_or (take count registers) lane 0 ≡ from =
    get_or-take count registers lane 0 (omega arith)
    ∙ (c.loop-from.invariant.each lane (omega (arith, here, c.loop-from-test.false)) ∙ here) in
    record {
      each = λ to signal captured. c.reach_up_to.ensures.reach lane from signal
          (slice_get-get_or (take count registers) lane 0 inside ∙ ap Some value)
          (c.requires.room.captured to signal captured);
    }
