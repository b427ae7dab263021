use Rattle.std.proofs.Common.{◌≡◌, get_or, ap, ◌∙◌}
use Rattle.bench_reader.proofs.SignalNames.{names_push}
use Rattle.bench_reader.proofs.read.signal_names.Goals as goal

pub loop-number-preserved : goal.loop-number-preserved
loop-number-preserved c =
    let signal = c.index-as_slice-number.result in
    let number = get_or c.args.numbers.now c.loop-number.number-index 0 in
    let here : signal ≡ get_or c.args.circuit.now.signals number signal =
    c.index-as_slice-number.is ∙ ap (λ signals. get_or signals number signal) c.as_slice.ensures in
    names_push c.args.circuit.now.signals c.args.numbers.now c.loop-number.number-index signal
    c.loop-number-test.true (c.requires c.loop-number.number-index 0 c.loop-number-test.true) here
    (c.from_vec.ensures ∙ c.in_ok-name.ensures.items ∙ c.as_slice-in-loop-number.ensures)
    c.loop-number.invariant c.in_ok-push.ensures.ok
