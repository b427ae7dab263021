-- The lane holds the least and the greatest of both, and the others what they held.
use Rattle.path_delays.proofs.Vocabulary.{rules, set, inl, inr, cases_eq, eq-eqb, ne_eqb, NarrowLanes}
use Rattle.path_delays.proofs.NarrowLemmas.{lane_widened, narrow_joined}
use Rattle.path_delays.proofs.narrow_lanes.NarrowLanesRow.join.Goals as goal

pub returns : goal.returns
returns c other low =
    let joined : NarrowLanes = record {
      least = set c.args.self.now.least c.args.lane.number c.lesser.result;
      greatest = set c.args.self.now.greatest c.args.lane.number c.greater.result;
    } in
    rw (lane_widened c.args.self.now other low, lane_widened joined other low)
    (elim (cases_eq other c.args.lane.number) [
      | inl same ↦ rw (eq-eqb other c.args.lane.number same)
          (narrow_joined c.args.self.now joined other c.args.sums c.requires (search rules)
          (search rules))
      | inr differs ↦ rw (ne_eqb other c.args.lane.number differs) (search rules)
    ])
