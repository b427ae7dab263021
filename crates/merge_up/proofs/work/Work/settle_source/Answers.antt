use Rattle.merge_up.proofs.Vocabulary.{◌<◌, ◌≤◌, ◌*◌, ◌-◌, ◌∙◌, ap, length, true, slice_set, rules, arith, to_z-of_z, length-set, w128, cut, state_of}
use Rattle.merge_up.proofs.WorkLemmas.{fit_state, take_set}
use Rattle.merge_up.proofs.work.Work.settle_source.Goals as goal

pub invariant_of-self : goal.invariant_of-self
invariant_of-self c =
    let work = c.self.inside in
    let has = c.self.invariant in
    let source = 2 * work.sinks - 1 in
    let shows = ap length c.set-3.ensures ∙ length-set work.shows (work.sinks - 1) c.args.show in
    let reaches = ap length c.set-2.ensures ∙ length-set work.tree.reach source _ in
    let places = ap length c.set.ensures ∙ length-set work.tree.place source _ in
    let settled = ap length c.settle.ensures ∙ length-set work.settled source true in
    search (rules, shows, reaches, places, settled, has)

pub returns : goal.returns
returns c =
    let work = c.self.inside in
    let source = 2 * work.sinks - 1 in
    let some : 1 ≤ work.sinks = rw (← c.self.view_is) at c.requires.merged in
    let low : source < 2 * work.sinks = omega (arith, some) in
    let reach = c.set-2.ensures
    ∙ ap (slice_set work.tree.reach source) (to_z-of_z w128 c.args.reach c.ranges.reach) in
    record {
      fit = fit_state _ (invariant_of-self c);
      point = c.to_point.result;
      stands = c.to_point.ensures.back;
      rest = rw (← c.self.view_is) (λ i. record (state_of work) {
        room = (ap length c.set-3.ensures
            ∙ length-set work.shows (work.sinks - 1) c.args.show) i;
        tree = record (cut work.sinks work.tree) {
          reach = take_set (2 * work.sinks) work.tree.reach c.args.reach low reach i;
          place = take_set (2 * work.sinks) work.tree.place _ low c.set.ensures i;
        };
        shows = take_set work.sinks work.shows c.args.show (omega (arith, some)) c.set-3.ensures i;
        settled = take_set (2 * work.sinks) work.settled true low c.settle.ensures i;
      });
    }
