-- The sums at the single signal, or at several.
use Rattle.path_delays.proofs.Vocabulary.{◌∷◌, [], None, ◌∙◌, sym, subst, arith, Contains, get_or_default, slice_index_or, AreExtremesIfAny, StandsAt, sums_to}
use Rattle.path_delays.specs.declared.lanes.LaneSums.{LaneSums}
use Rattle.path_delays.proofs.CarryLemmas.{extremes_single}
use Rattle.path_delays.proofs.capturing.CaptureList.sums.Goals as goal

pub index-requires : goal.index-requires
index-requires c = omega (
  arith,
  (c.requires.1.several c.in-Merged.place c.in-Merged.is).within,
  c.args.self.now.merged.ok.0,
)

pub returns-in-Single : goal.returns-in-Single
returns-in-Single c circuit is = record {
  captured = c.in-Single.signal ∷ [];
  exact = (is.single c.in-Single.signal c.in-Single.is).0;
  each = rw c.held_sums.ensures
      (extremes_single (sums_to c.args.walk.now c.args.lane.number) c.in-Single.signal);
}

pub returns-in-Merged : goal.returns-in-Merged
returns-in-Merged c circuit is =
    let place = c.in-Merged.place in
    let at = is.several place c.in-Merged.is in
    let lane = c.args.lane.number in record {
      captured = at.captured;
      exact = at.exact;
      each = subst (λ (row : LaneSums). AreExtremesIfAny
          (StandsAt (sums_to c.args.walk.now lane) (Contains at.captured))
          (slice_index_or row.sums lane None))
          (get_or_default c.args.self.now.merged.items place (record { sums = [] })
          c.index.result.now at.within ∙ sym c.index.ensures) (at.each lane c.args.lane.low);
    }
