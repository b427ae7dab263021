use Rattle.move_session.proofs.Vocabulary.{length, sym, ap, ◌∙◌, length-set, AreTreeSinks, WorkState}
use Rattle.move_session.proofs.MovedSinks.{moved_beside, tree_sinks_set}
use Rattle.move_session.proofs.session.Session.move_sink.Goals as goal
use Rattle.move_session.proofs.session.Session.move_sink.Goals.{After-set}

-- the sinks as they are then are tree sinks
are_moved : (c : After-set) → AreTreeSinks c.set.new.self
are_moved c = rw c.set.ensures (tree_sinks_set c.self.inside.sinks c.args.register
    c.moved_sink-sink.result c.self.invariant.sinks c.moved_sink-sink.ensures.sink)

pub renew_above-requires-clause-sinks : goal.renew_above-requires-clause-sinks
renew_above-requires-clause-sinks c = rw c.as_slice-sinks.ensures
    (are_moved (goal.at.renew_above-requires-clause-sinks c).After-set)

pub renew_above-requires-clause-fit : goal.renew_above-requires-clause-fit
renew_above-requires-clause-fit c = c.set_sink.ensures.fit

pub renew_above-requires-clause-beside : goal.renew_above-requires-clause-beside
renew_above-requires-clause-beside c = rw (c.as_slice-sinks.ensures, c.set.ensures)
    (moved_beside c.self.inside.sinks c.self.inside.topology.merges c.args.register
    c.moved_sink-sink.result c.self.inside.work c.set_sink.new.self
    (rw (← c.self.view_is) at c.requires.register) c.self.invariant.fit c.self.invariant.merged
    c.self.invariant.kept c.set_sink.ensures)

pub place-requires-clause-sinks : goal.place-requires-clause-sinks
place-requires-clause-sinks c = rw c.as_slice-sinks.ensures
    (are_moved (goal.at.place-requires-clause-sinks c).After-set)

pub invariant_of-self : goal.invariant_of-self
invariant_of-self c =
    let held = c.self.invariant in
    let sinks_are = c.as_slice-sinks.ensures in
    let all = ap length c.set.ensures
    ∙ length-set c.self.inside.sinks c.args.register c.moved_sink-sink.result in
    record {
      sinks = are_moved (goal.at.invariant_of-self c).After-set;
      topology = rw all held.topology;
      source = held.source;
      room = ap (λ work. work.room) c.place.ensures.stays.rest ∙ c.renew_above.ensures.room
          ∙ ap (λ work. work.room) c.set_sink.ensures.rest ∙ held.room ∙ sym all;
      fit = c.place.ensures.fit;
      merged = rw sinks_are at c.place.ensures.merged;
      kept = rw (ap (λ work. work.ends) c.place.ensures.stays.rest)
          (rw sinks_are at c.renew_above.ensures.kept);
      placed = rw sinks_are at c.place.ensures.tree;
      numbers = c.place.ensures.numbers;
      settled = c.place.ensures.settled;
    }

pub returns-clause-renewals : goal.returns-clause-renewals
returns-clause-renewals c =
    let all = ap length (c.as_slice-sinks.ensures ∙ c.set.ensures)
    ∙ length-set c.self.inside.sinks c.args.register c.moved_sink-sink.result in
    rw (
      ← c.self.view_is,
      ap (λ (work : WorkState). work.renewals) c.place.ensures.stays.rest,
      ← all,
      ← ap (λ (work : WorkState). work.renewals) c.set_sink.ensures.rest,
    ) c.renew_above.ensures.renewals
