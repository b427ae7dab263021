use Rattle.merge_up.proofs.Vocabulary.{◌<◌, ◌*◌, ◌∙◌, ap, length, slice_set, rules, arith, to_z-of_z, length-set, length-replicate, w128, cut, state_of}
use Rattle.merge_up.proofs.WorkLemmas.{fit_state, take_set, take_unsettled}
use Rattle.merge_up.proofs.work.Work.set_sink.Goals as goal

pub invariant_of-self : goal.invariant_of-self
invariant_of-self c =
    let work = c.self.inside in
    let has = c.self.invariant in
    let reaches = ap length c.set.ensures ∙ length-set work.tree.reach c.args.register _ in
    let regions = ap length c.set-2.ensures ∙ length-set work.regions c.args.register _ in
    let settled = ap length c.forget.ensures ∙ length-replicate _ _ in
    search (rules, reaches, regions, settled, has)

pub returns : goal.returns
returns c =
    let work = c.self.inside in
    let has = c.self.invariant in
    let register = c.args.register in
    let low : register < work.sinks = rw (← c.self.view_is) at c.requires.register in
    let reach = c.set.ensures
    ∙ ap (slice_set work.tree.reach register)
    (to_z-of_z w128 c.args.sink.offset (search rules)) in
    record {
      fit = fit_state _ (invariant_of-self c);
      region = c.point.result;
      point = c.point.ensures.sides;
      rest = rw (← c.self.view_is) (λ i. record (state_of work) {
        tree = record (cut work.sinks work.tree) {
          reach = take_set (2 * work.sinks) work.tree.reach c.args.sink.offset (omega
              (arith, low)) reach i;
        };
        regions = c.set-2.ensures i;
        settled = take_unsettled (2 * work.sinks) work.settled (omega (arith, has))
            c.forget.ensures i;
      });
    }
