use Rattle.merge_up.proofs.Vocabulary.{◌<◌, ◌*◌, ◌-◌, ◌∙◌, ap, length, true, slice_set, rules, arith, to_z-of_z, length-set, w128, placed_as, state_of}
use Rattle.merge_up.proofs.WorkLemmas.{fit_state, take_set}
use Rattle.merge_up.proofs.work.Work.settle.Goals as goal

pub invariant_of-self : goal.invariant_of-self
invariant_of-self c =
    let work = c.self.inside in
    let has = c.self.invariant in
    let node = c.args.node in
    let places = ap length c.set.ensures ∙ length-set work.tree.place node _ in
    let lengths = ap length c.set-2.ensures ∙ length-set work.tree.length node _ in
    let settled = ap length c.settle.ensures ∙ length-set work.settled node true in
    search (rules, places, lengths, settled, has)

pub returns : goal.returns
returns c =
    let work = c.self.inside in
    let node = c.args.node in
    let low : node < 2 * work.sinks - 1 = rw (← c.self.view_is) at c.requires.node in
    let long = c.set-2.ensures
    ∙ ap (slice_set work.tree.length node) (to_z-of_z w128 c.args.length c.ranges.length) in
    record {
      fit = fit_state _ (invariant_of-self c);
      point = c.to_point.result;
      stands = c.to_point.ensures.back;
      rest = rw (← c.self.view_is) (λ i. placed_as
          (take_set (2 * work.sinks) work.tree.place _ (omega (arith, low)) c.set.ensures i)
          (take_set (2 * work.sinks - 1) work.tree.length c.args.length low long i)
          (take_set (2 * work.sinks) work.settled true (omega (arith, low)) c.settle.ensures i)
          (state_of work));
    }
