-- Paths and their delays, one gate after the other.
use Rattle.cert_check.proofs.Vocabulary.{◌≡◌, ◌<◌, ◌+◌, ◌*◌, ◌^◌, ℕ, ℤ, pos, ◌+ℤ◌, ◌≤ℤ◌, neg_ℤ, Bool, true, false, IsTrue, Option, None, Some, All, List, [], ◌∷◌, length, get_or, drop, refl, ap, ◌∙◌, arith, IsSomeAnd, slice_get, All-nil, All-cons, ints, Circuit, Tech, Follows, IsGate, IsPath, Reads, IsBelow}
use Rattle.std.proofs.Common.{Contains}
use Rattle.cts_model.specs.declared.signal.Signal.{Signal}
use Rattle.cts_model.specs.Vocabulary.{is_gate}
use Rattle.cert_check.proofs.FirstPlaces.{rest_is}
use Rattle.cert_check.specs.WalkedPaths.{LeadsTo, gate_delay_by, through_by}

module _ (circuit : Circuit) (to : ℕ) (first : ℕ) (gates : List ℕ) where
  -- the whole leads to the register exactly where what is left does
  pub record IsLeft (place last : ℕ) : Type 0 where
    pub left : LeadsTo circuit first gates to → LeadsTo circuit last (drop place gates) to
    pub whole : LeadsTo circuit last (drop place gates) to → LeadsTo circuit first gates to

module _ (circuit : Circuit) (tech : Tech) (greatest : Bool) where
  -- delays of one gate and of others are added
  through-cons : (gate : ℕ) (gates : List ℕ) → through_by greatest circuit tech (gate ∷ gates)
      ≡ gate_delay_by greatest tech (slice_get circuit.signals gate)
      +ℤ through_by greatest circuit tech gates
  through-cons gate gates = either greatest
    where
      either : (b : Bool) → through_by b circuit tech (gate ∷ gates)
          ≡ gate_delay_by b tech (slice_get circuit.signals gate) +ℤ through_by b circuit tech gates
      either true = refl
      either false = refl

  -- with what is left this is the sum of all, and no more than so many gates have
  pub record IsSumBy (gates : List ℕ) (place : ℕ) (sum : ℤ) : Type 0 where
    pub is : sum +ℤ through_by greatest circuit tech (drop place gates)
        ≡ through_by greatest circuit tech gates
    pub above : neg_ℤ (pos (place * 2 ^ 64)) ≤ℤ sum
    pub below : sum ≤ℤ pos (place * 2 ^ 64)

  -- one gate more
  pub sum_next : (gates : List ℕ) (place d : ℕ) (sum more : ℤ) → place < length gates
      → IsBelow (2 ^ 64)
      (gate_delay_by greatest tech (slice_get circuit.signals (get_or gates place d)))
      → more ≡ sum
      +ℤ gate_delay_by greatest tech (slice_get circuit.signals (get_or gates place d))
      → IsSumBy gates place sum → IsSumBy gates (place + 1) more
  sum_next gates place d sum more within small next by =
      let gate = get_or gates place d in
      let left = ap (through_by greatest circuit tech) (rest_is gates place d within)
      ∙ through-cons gate (drop (place + 1) gates) in
      record {
        is = joined sum more _ _ _ _ left next by.is;
        above = omega (arith, ints, next, small.above, by.above);
        below = omega (arith, ints, next, small.below, by.below);
      }
    where
      joined : (sum more left its rest all : ℤ) → left ≡ its +ℤ rest → more ≡ sum +ℤ its
          → sum +ℤ left ≡ all → more +ℤ rest ≡ all
      joined sum more left its rest all one next is = omega (arith, ints)

-- what reads a signal is a gate
gate_reads : (signals : List Signal) (gate read : ℕ) → Reads signals gate read
    → IsGate signals gate
gate_reads signals gate read = at (slice_get signals gate)
  where
    at : (found : Option Signal)
        → IsSomeAnd found (λ signal. IsTrue (is_gate signal.kind) × Contains signal.fan_in read)
        → IsSomeAnd found (λ signal. IsTrue (is_gate signal.kind))
    at None reads = reads
    at (Some signal) reads = reads.0

-- all that follow a signal are gates
follow_gates : (signals : List Signal) (first : ℕ) (gates : List ℕ) (last : ℕ)
    → Follows signals first gates last → All (IsGate signals) gates
follow_gates signals first [] last follows = All-nil (IsGate signals)
follow_gates signals first (gate ∷ gates) last (reads, follows) =
    All-cons (IsGate signals) gate gates (gate_reads signals gate first reads)
    (follow_gates signals gate gates last follows)

-- after its first signal a path has gates alone
pub path_gates : (circuit : Circuit) (from to : ℕ) (path : List ℕ) → IsPath circuit from to path
    → All (IsGate circuit.signals) (drop 1 path)
path_gates circuit from to [] joins = absurd joins
path_gates circuit from to (first ∷ gates) (launches, (last, follows, captures)) =
    follow_gates circuit.signals first gates last follows
