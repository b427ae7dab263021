use Rattle.bench_reader.proofs.Vocabulary.{◌≡◌, take, names_of_signals}
use Rattle.bench_reader.proofs.read.signal_names.Given as goal

abbrev pub invariant-loop-number : goal.invariant-loop-number
invariant-loop-number l =
    l.names ≡ names_of_signals l.circuit.signals (take l.number-index l.numbers)
