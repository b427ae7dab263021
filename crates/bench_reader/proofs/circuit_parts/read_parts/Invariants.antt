use Rattle.bench_reader.proofs.Vocabulary.{drop, kept_of}
use Rattle.bench_reader.proofs.PartWalk.{DenotesPassed}
use Rattle.bench_reader.proofs.circuit_parts.read_parts.Given as goal

abbrev pub invariant-loop-place : goal.invariant-loop-place
invariant-loop-place l = DenotesPassed l.reading.text.now l.reading.names
    (drop l.place (kept_of l.reading.said.items)) l.parts
