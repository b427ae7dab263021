use Rattle.merge_up.proofs.Vocabulary.{IsFalse, refl, rules, length-replicate, All-nil}
use Rattle.merge_up.proofs.WorkLemmas.{fit_state}
use Rattle.merge_up.proofs.work.Work.with_room.Goals as goal

pub returns : goal.returns
returns c = record {
  fit = fit_state (record {
    sinks = 0;
    tree = c.in_ok-tree_with_room.field-0;
    regions = c.from_vec.result;
    ends = c.from_vec-2.result;
    shows = c.from_vec-3.result;
    settled = c.in_ok-with_room.field-0;
    renewals = 0;
  }) (search (rules, c.in_ok-with_room.ensures, length-replicate));
  room = search rules;
  sinks = refl;
  settled = All-nil IsFalse;
  renewals = refl;
}
