use Rattle.gate_order.proofs.Vocabulary.{◌≡◌, ◌<◌, length, ◌∙◌, arith, values_at}
use Rattle.gate_order.proofs.SortSteps.{IsSorting-none, IsSorting-more, IsSorted-from_taken, can_release, next_within}
use Rattle.gate_order.proofs.sorting.sorted.Goals as goal

pub loop-taken-init : goal.loop-taken-init
loop-taken-init c =
    IsSorting-none c.args.circuit.now.signals c.in_ok-pairs.pairs.items
    c.in_ok-waiting.waiting.items c.in_ok-order.order.items
    (c.in_ok-waiting.ensures.len ∙ c.len-signals.ensures)
    (rw c.as_slice-2.ensures.value at c.in_ok-waiting.ensures.each)
    (rw c.as_slice-3.ensures.value at c.in_ok-order.ensures)

pub release_all-requires : goal.release_all-requires
release_all-requires c =
    let signals = c.args.circuit.now.signals in
    let pairs = c.in_ok-pairs.pairs.items in
    let order = c.loop-taken.sorting.order.items in
    let gate = c.index-gate.result.now in
    let within : c.loop-taken.taken < length order = omega arith in
    let known : gate < c.len-signals.result = omega (
      arith,
      next_within signals order c.loop-taken.taken gate within c.index-gate.ensures
          c.loop-taken.invariant.gates,
    ) in
    rw (c.group.ensures
    ∙ (rw c.as_slice.ensures.value at (c.in_ok-readers.ensures.each gate known)))
    (can_release signals pairs c.loop-taken.taken gate c.loop-taken.sorting.waiting.items order
    within c.index-gate.ensures c.loop-taken.invariant)

pub loop-taken-preserved : goal.loop-taken-preserved
loop-taken-preserved c =
    let signals = c.args.circuit.now.signals in
    let pairs = c.in_ok-pairs.pairs.items in
    let order = c.loop-taken.sorting.order.items in
    let gate = c.index-gate.result.now in
    let within : c.loop-taken.taken < length order = omega arith in
    let known : gate < c.len-signals.result = omega (
      arith,
      next_within signals order c.loop-taken.taken gate within c.index-gate.ensures
          c.loop-taken.invariant.gates,
    ) in
    let readers : c.group.result.now ≡ values_at pairs gate =
    c.group.ensures ∙ (rw c.as_slice.ensures.value at (c.in_ok-readers.ensures.each gate known)) in
    IsSorting-more signals pairs
    (length signals) c.loop-taken.taken gate c.loop-taken.sorting.waiting.items order
    c.release_all.new.self.waiting.items c.release_all.new.self.order.items
    c.in_ok-pairs.ensures within c.index-gate.ensures c.loop-taken.invariant
    (rw readers at c.in_ok-release_all.ensures)

pub returns : goal.returns
returns c =
    IsSorted-from_taken c.args.circuit.now.signals c.in_ok-pairs.pairs.items c.loop-taken.taken
    c.loop-taken.sorting.waiting.items c.loop-taken.sorting.order.items c.in_ok-pairs.ensures
    (omega arith) c.loop-taken.invariant
