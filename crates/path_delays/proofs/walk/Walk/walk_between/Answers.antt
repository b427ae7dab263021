-- The lanes hold the first registers, and none of the second captures beyond the highest rank.
use Rattle.path_delays.proofs.Vocabulary.{◌≡◌, ◌<◌, ◌∙◌, ℕ, Some, length, take, get_or, ap, arith, rules, subst, sym, length-take, get_or-take, get_or_default, same_Some, cases_lt, length-set, get_or-set_same, get_or-set_other, slice_get-get_or, slice_get_within, AreCapturedUpTo}
use Rattle.path_delays.proofs.ReachedPairs.{captured_is_fan_in}
use Rattle.path_delays.proofs.walk.Walk.walk_between.Goals as goal

pub invariant_of-from : goal.invariant_of-from
invariant_of-from c = record {
  few = search rules;
  within = λ k d inside. grind (arith, length-take, get_or-take, get_or_default);
}

pub loop-lane-preserved : goal.loop-lane-preserved
loop-lane-preserved c = grind (
  arith,
  cases_lt,
  length-set,
  get_or-set_same,
  get_or-set_other,
  captured_is_fan_in,
)

pub returns-clause-reach : goal.returns-clause-reach
returns-clause-reach c lane from to here =
    let pairs = c.args.pairs.now.items.now in
    let registers = c.loop-lane.registers in
    let short = slice_get_within pairs lane (from, to) here in
    let covered = length-take (length pairs) registers in
    let inside : lane < length (take (length pairs) registers) =
    omega (arith, covered, c.loop-lane.invariant.lanes, c.args.pairs.now.few) in
    let pair : get_or pairs lane (0, 0) ≡ (from, to) =
    same_Some (get_or pairs lane (0, 0)) (from, to)
    (sym (slice_get-get_or pairs lane (0, 0) short) ∙ here) in
    let value : get_or (take (length pairs) registers) lane 0 ≡ from =
    get_or-take (length pairs) registers lane 0 short
    ∙ (c.loop-lane.invariant.each lane (omega (arith, c.loop-lane-test.false))
    ∙ ap (λ p. p.0) pair) in
    record {
      top = c.loop-lane.top;
      each = λ signal low. c.reach_up_to.ensures.reach lane from signal
          (slice_get-get_or (take (length pairs) registers) lane 0 inside ∙ ap Some value) low;
      captured = subst (λ (p : ℕ × ℕ). AreCapturedUpTo c.args.circuit.now c.args.self.now.network
          p.1 c.loop-lane.top) pair
          (c.loop-lane.invariant.captured lane (omega (arith, c.loop-lane-test.false)));
    }
