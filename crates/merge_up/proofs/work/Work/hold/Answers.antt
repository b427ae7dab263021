use Rattle.merge_up.proofs.Vocabulary.{◌≡◌, ◌∙◌, ◌+◌, ◌*◌, ◌<◌, take, ap, length, slice_set, rules, arith, to_z-of_z, length-set, length-replicate, w128, numbers_below, cut, state_of}
use Rattle.merge_up.proofs.WorkLemmas.{fit_state, renewed_by, take_set, take_unsettled}
use Rattle.merge_up.proofs.work.Work.hold.Goals as goal

pub invariant_of-self : goal.invariant_of-self
invariant_of-self c =
    let work = c.self.inside in
    let has = c.self.invariant in
    let place = c.args.place in
    let node = work.sinks + place in
    let reaches = ap length c.set.ensures ∙ length-set work.tree.reach node _ in
    let regions = ap length c.set-2.ensures ∙ length-set work.regions node _ in
    let ends = ap length c.set-3.ensures ∙ length-set work.ends place _ in
    let shows = ap length c.set-4.ensures ∙ length-set work.shows place _ in
    let added = c.saturating_add-self-inside.ensures in
    let settled = ap length c.forget.ensures ∙ length-replicate _ _ in
    search (rules, reaches, regions, ends, shows, settled, added, has)

pub returns : goal.returns
returns c = λ sinks merges one other same both held others.
    let work = c.self.inside in
    let has = c.self.invariant in
    let place = c.args.place in
    let node = work.sinks + place in
    let ends = c.joined-ends.result in
    let are = rw (← both) at (c.joined-ends.ensures sinks one other held others) in
    let low : place + 1 < work.sinks = rw (← c.self.view_is) at c.requires in
    let count : work.sinks ≡ length sinks = rw (← c.self.view_is) at same in
    let at : node ≡ length sinks + place = ap (λ n. n + place) count in
    let (found, region) = c.reach_and_region-reach.result in
    let reach = to_z-of_z w128 found (search rules) in
    let reaches = take_set (2 * work.sinks) work.tree.reach found (omega (arith, low))
    (c.set.ensures ∙ ap (slice_set work.tree.reach node) reach)
    ∙ ap (λ n. slice_set (take (2 * work.sinks) work.tree.reach) n found) at in
    let regions = c.set-2.ensures ∙ ap (λ n. slice_set work.regions n region) at in
    rw (← c.self.view_is) (renewed_by sinks merges place (state_of work) _ ends found
    region c.show.result (fit_state _ (invariant_of-self c)) (fit_state work has) count low
    (λ i. record (state_of work) {
      room = (ap length c.set-4.ensures ∙ length-set work.shows place c.show.result) i;
      tree = record (cut work.sinks work.tree) { reach = reaches i };
      regions = regions i;
      ends = c.set-3.ensures i;
      shows = take_set work.sinks work.shows c.show.result (omega (arith, low)) c.set-4.ensures i;
      settled = take_unsettled (2 * work.sinks) work.settled (omega (arith, has)) c.forget.ensures
          i;
      renewals = c.saturating_add-self-inside.ensures i;
    })
    are c.reach_and_region-reach.ensures.twice c.reach_and_region-reach.ensures.region
    (c.show.ensures sinks (numbers_below (length sinks) merges (length sinks + place)) found are
    c.reach_and_region-reach.ensures.twice))
