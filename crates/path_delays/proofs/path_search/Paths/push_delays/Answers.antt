-- One pair more.
use Rattle.path_delays.proofs.Vocabulary.{◌∷◌, ◌++◌, [], take, get_or, append_assoc, take_more, slice_get-get_or, IsJoinedBy}
use Rattle.path_delays.proofs.BetweenLemmas.{between_push}
use Rattle.path_delays.proofs.ReachedPairs.{captured_is_fan_in}
use Rattle.path_delays.proofs.path_search.Paths.push_delays.Goals as goal

pub loop-lane-preserved : goal.loop-lane-preserved
loop-lane-preserved c passed before =
    let circuit = c.self.inside.circuit.now in
    let tech = c.self.inside.tech.now in
    let pairs = c.args.pairs.now.items.now in
    let lane = c.loop-lane.lane in
    let pair = get_or pairs lane (0, 0) in
    let reach = c.walk_between.ensures.reach lane pair.0 pair.1
    (slice_get-get_or pairs lane (0, 0) c.loop-lane-test.true) in
    let captured = captured_is_fan_in circuit pair.1 c.register_signal.result.now
    c.register_signal.ensures in
    let joined : IsJoinedBy circuit tech pair.0 pair.1 c.joined_pair.result =
    c.joined_pair.ensures circuit tech lane c.walk_between.new.self _
    (rw c.as_slice-captured.ensures captured)
    (rw c.as_slice-captured.ensures (λ signal listed.
    reach.each signal (reach.captured signal ((captured signal).0 listed))))
    c.captured_sums-sums.ensures in
    let more = between_push circuit tech (passed ++ take lane pairs) pair
    c.loop-lane.delays.items c.joined_pair.result joined
    (c.loop-lane.invariant passed before) in
    rw (
      c.in_ok-push.ensures.items,
      take_more pairs lane (0, 0) c.loop-lane-test.true,
      ← append_assoc passed (take lane pairs) (pair ∷ []),
    ) more
