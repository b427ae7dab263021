use Rattle.std.proofs.Common.{◌∙◌}
use Rattle.path_delays.proofs.NetworkLemmas.{reads_within}
use Rattle.path_delays.proofs.ReachedPairs.{no_path, captured_is_fan_in}
use Rattle.path_delays.proofs.PathsBack.{captures_furthest, captures_within, back_first, back_next, back_at_start}
use Rattle.path_delays.proofs.extreme_path.path_back.Goals as goal

pub loop-read-smaller : goal.loop-read-smaller
loop-read-smaller c = c.requires.ranks.rising c.loop-read.signal c.in-Some-furthest_read.read
    c.in-Some-furthest_read.ensures.is_one

pub loop-read-preserved : goal.loop-read-preserved
loop-read-preserved c = record {
  within = reads_within c.args.circuit.now.signals c.loop-read.signal c.in-Some-furthest_read.read
      c.args.circuit.now.valid.read c.in-Some-furthest_read.ensures.is_one;
  back = λ tech from reach. back_next c.args.circuit.now tech from c.args.to c.args.lane.number
      c.args.walk.now c.args.greatest c.requires.ranks reach c.in-Some.last c.loop-read.signal
      c.in-Some-furthest_read.read _ _ c.in_ok-push.ensures.items c.in-Some-furthest_read.ensures
      (c.loop-read.invariant.back tech from reach);
}

pub returns-in_default : goal.returns-in_default
returns-in_default c tech from reach =
    let captured = captured_is_fan_in c.args.circuit.now c.args.to c.register_signal.result.now
    c.register_signal.ensures in
    no_path c.args.circuit.now tech from c.args.to c.args.lane.number c.args.walk.now
    c.register_signal.result.now.fan_in captured
    (λ signal listed. reach.each signal (reach.captured signal ((captured signal).0 listed)))
    (rw c.as_slice-captured.ensures at c.in_default.ensures)

pub loop-read-init : goal.loop-read-init
loop-read-init c =
    let circuit = c.args.circuit.now in
    let signal = c.register_signal.result.now in
    let furthest = captures_furthest circuit c.args.to signal c.register_signal.ensures
    c.args.walk.now c.args.lane.number c.args.greatest c.in-Some.last
    (rw c.as_slice-captured.ensures at c.in-Some.ensures) in
    let within = captures_within circuit c.args.to signal c.register_signal.ensures c.in-Some.last
    furthest.is_one in
    record {
      within = within;
      back = λ tech from reach. back_first circuit tech from c.args.to c.args.lane.number
          c.args.walk.now c.args.greatest c.requires.ranks reach c.in-Some.last
          c.in_ok-path.path.items c.in_ok-path.ensures.items within furthest;
    }

pub returns : goal.returns
returns c tech from reach =
    let circuit = c.args.circuit.now in
    let furthest = captures_furthest circuit c.args.to c.register_signal.result.now
    c.register_signal.ensures c.args.walk.now c.args.lane.number c.args.greatest c.in-Some.last
    (rw c.as_slice-captured.ensures at c.in-Some.ensures) in
    back_at_start circuit tech from c.args.to c.args.lane.number c.args.walk.now c.args.greatest
    c.requires.ranks reach c.in-Some.last c.loop-read.signal c.loop-read.path.items
    c.from_vec.result (c.from_vec.ensures ∙ c.reverse.ensures.items) furthest
    c.in_default-furthest_read.ensures (c.loop-read.invariant.back tech from reach)
