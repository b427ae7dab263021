-- The numbers in a ring of gates are numbers of signals.
use Rattle.bench_reader.proofs.Vocabulary.{◌≡◌, ◌<◌, ℕ, List, [], ◌∷◌, length, Option, Some, None, All, IsTrue, IsSomeAnd, Contains, refl, slice_get, slice_get_within, All-nil, All-cons, Signal, is_gate}
use Rattle.cts_model.specs.Vocabulary.{Reads, Follows, IsLoop}

-- a gate that reads is one
reads_within : (signals : List Signal) (gate read : ℕ) → Reads signals gate read
    → gate < length signals
reads_within signals gate read = at (slice_get signals gate) refl
  where
    at : (o : Option Signal) → slice_get signals gate ≡ o
        → IsSomeAnd o (λ signal. IsTrue (is_gate signal.kind) × Contains signal.fan_in read)
        → gate < length signals
    at None missing reads = absurd reads
    at (Some signal) found reads = slice_get_within signals gate signal found

-- so is each that reads the one before
follows_within : (signals : List Signal) (first : ℕ) (gates : List ℕ) (last : ℕ)
    → Follows signals first gates last → All (λ gate. gate < length signals) gates
follows_within signals first [] last follows = All-nil _
follows_within signals first (gate ∷ gates) last follows =
    All-cons (λ g. g < length signals) gate gates (reads_within signals gate first follows.0)
    (follows_within signals gate gates last follows.1)

-- and each in a ring
pub loop_within : (signals : List Signal) (loop : List ℕ) → IsLoop signals loop
    → All (λ gate. gate < length signals) loop
loop_within signals [] ring = absurd ring
loop_within signals (first ∷ gates) (last, follows, reads) =
    All-cons (λ g. g < length signals) first gates (reads_within signals first last reads)
    (follows_within signals first gates last follows)
