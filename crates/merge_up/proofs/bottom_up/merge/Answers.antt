use Rattle.merge_up.proofs.Vocabulary.{subst, arith, IsRenewed}
use Rattle.merge_up.proofs.WorkLemmas.{merged_next}
use Rattle.merge_up.proofs.bottom_up.merge.Goals as goal

pub loop-place-init : goal.loop-place-init
loop-place-init c =
    let set = c.set_sinks.ensures in
    record {
      room = set.room;
      count = set.count;
      renewals = omega (arith, set.renewals, set.fit.renewals);
      of_sinks = set.sinks;
      of_merges = λ lower before. absurd (omega (arith, before));
      kept = λ lower before. absurd (omega (arith, before));
      settled = set.settled;
    }

pub loop-place-preserved : goal.loop-place-preserved
loop-place-preserved c =
    let sinks = c.args.sinks.now in
    let merges = c.args.topology.now.merges in
    merged_next sinks merges c.loop-place.place c.args.work.now c.loop-place.work
    c.renew_from_kept.new.self c.loop-place.invariant (subst (λ n. IsRenewed sinks merges n c.loop-place.work
    c.renew_from_kept.new.self) (omega arith) c.renew_from_kept.ensures)
