-- In each lane are the least and the greatest at the signals passed so far.
use Rattle.path_delays.proofs.Vocabulary.{ℕ, ◌<◌, Contains, map, take, option_and_then, lane_of, AreBounded, AreExtremesIfAny, StandsAt, some_sums}
use Rattle.path_delays.specs.LaneTables.{lane_among}
use Rattle.path_delays.proofs.lane_table.merged.Given as goal

abbrev pub invariant-loop-signal : goal.invariant-loop-signal
invariant-loop-signal g l = (lane : ℕ) → lane < 16
    → AreBounded g.R.Row.limit (lane_of (g.R.Row.wide l.row) lane)
    × AreExtremesIfAny (StandsAt (λ signal. option_and_then some_sums
    (lane_among (map g.R.Row.wide l.rows.items) l.reached.words.items lane signal))
    (Contains (take l.signal-index l.signals))) (some_sums (lane_of (g.R.Row.wide l.row) lane))
