use Rattle.move_session.proofs.Vocabulary.{◌≡◌, ◌+◌, ◌-◌, length, inl, inr, refl, subst, arith, Joins, merge_at, merge_here, IsRenewed, JoinsAt}
use Rattle.move_session.proofs.way_up.renew_joining.Goals as goal
use Rattle.move_session.proofs.way_up.renew_joining.Goals.{else-merge-node-via-then-merge-node+else-merge-node-2, else-merge-node-via-else-merge-node}

pub returns : goal.returns
returns c =
    let sinks = c.args.sinks.now in
    let merges = c.args.topology.now.merges in
    let place = c.args.place in
    let joins : JoinsAt merges place c.args.node = rw (merge_here merges place c.requires.within)
    (rw c.as_slice.ensures at (elim c.else-merge-node.branch as (λ branch. Joins (merge_at
    c.as_slice.result.now place) c.args.node) [
      | else-merge-node-via-then-merge-node+else-merge-node-2 w ↦ inr w.if-merge-node-2.false
      | else-merge-node-via-else-merge-node w ↦ inl w.if-merge-node.false
    ])) in
    let same : (length sinks + place) - length sinks ≡ place = omega arith in
    inl (record {
      joins = joins;
      renewed = subst (λ n. IsRenewed sinks merges n c.args.work.now
          c.renew_from_kept.new.self) same c.renew_from_kept.ensures;
      up = refl;
    })
