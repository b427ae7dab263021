-- One signal more, and all of them.
use Rattle.path_delays.proofs.Vocabulary.{Contains, get_or, map, take, take_all, take_more, inr, arith, subst, option_and_then, lane_of, AreExtremesIfAny, StandsAt, some_sums}
use Rattle.path_delays.specs.LaneTables.{lane_among, row_among}
use Rattle.path_delays.proofs.CarryLemmas.{extremes_next}
use Rattle.path_delays.proofs.LaneLemmas.{bounded_lane, none_missing, some_merged_if}
use Rattle.path_delays.proofs.lane_table.merged.Goals as goal

pub loop-signal-init : goal.loop-signal-init
loop-signal-init g c = λ lane low. rw (c.none-row.ensures lane low) (
  inr (none_missing g.R.Row.limit),
  λ one (signal, (place, within, here), stands). absurd (omega arith),
)

pub loop-signal-preserved : goal.loop-signal-preserved
loop-signal-preserved g c = λ lane low.
    let signals = c.args.signals.now in
    let i = c.loop-signal.signal-index in
    let so_far = c.loop-signal.invariant lane low in
    let found = lane_among (map g.R.Row.wide c.args.rows.now.items)
    c.args.reached.now.words.items lane in
    let step = some_merged_if g.R.Row.limit (lane_of (g.R.Row.wide c.loop-signal.row) lane)
    (found (get_or signals i 0)) c.requires.few so_far.0 (bounded_lane g.R.Row.limit
    (row_among (map g.R.Row.wide c.args.rows.now.items) c.args.reached.now.words.items
    (get_or signals i 0)) lane low (c.requires.bounded (get_or signals i 0))) in
    rw (c.merge_reached.ensures lane low, take_more signals i 0 c.loop-signal-test.true) (
      step.0,
      rw step.1 (extremes_next (λ signal. option_and_then some_sums (found signal))
          (take i signals) (get_or signals i 0)
          (some_sums (lane_of (g.R.Row.wide c.loop-signal.row) lane)) so_far.1),
    )

pub returns : goal.returns
returns g c = λ lane low. rw (c.in_lanes.ensures lane low) (subst (λ signals. AreExtremesIfAny
    (StandsAt (λ signal. option_and_then some_sums
    (lane_among (map g.R.Row.wide c.args.rows.now.items) c.args.reached.now.words.items lane
    signal))
    (Contains signals)) (some_sums (lane_of (g.R.Row.wide c.loop-signal.row) lane)))
    (take_all c.loop-signal.signal-index c.args.signals.now
    (omega (arith, c.loop-signal-test.false))) (c.loop-signal.invariant lane low).1)
