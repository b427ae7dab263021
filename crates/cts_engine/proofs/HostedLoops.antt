-- The gates of a circuit that texts tell form no ring: the host, which it may have besides, is on
-- none.
use Rattle.cts_engine.proofs.Vocabulary.{◌≡◌, ℕ, Bool, true, false, List, [], ◌∷◌, ◌++◌, length, Option, Some, None, IsTrue, nat_eq, get_or, Contains, inl, inr, refl, sym, ap, ◌∙◌, subst, arith, cases_lt, length_push, slice_get_within, slice_get-get_or, get_or_from_slice_get, Signal, Circuit, Tech, host_signal, IsWithHost, is_gate, AcceptsNetlist, Reads, Follows, IsLoop, IsHostedBy, TellBoth}
use Rattle.std.proofs.Common.{IsSomeAnd, MatchBool}
use Rattle.std.specs.List.{slice_get}
use Rattle.std.proofs.Math.ListN.{get_or-append}
use Rattle.std.proofs.Math.Seq.{get_or-append_seam}

-- with the host a gate reads what it read
reads_bare : (signals : List Signal) (outputs : List ℕ) (gate read : ℕ)
    → Reads (signals ++ host_signal outputs ∷ []) gate read → Reads signals gate read
reads_bare signals outputs gate read reads =
    at (slice_get (signals ++ host_signal outputs ∷ []) gate) refl reads
  where
    at : (found : Option Signal) → slice_get (signals ++ host_signal outputs ∷ []) gate ≡ found
        → IsSomeAnd found (λ signal. IsTrue (is_gate signal.kind) × Contains signal.fan_in read)
        → Reads signals gate read
    at None none reads = absurd reads
    at (Some signal) found reads = elim (cases_lt gate (length signals)) [
      | inl before ↦
          let same : get_or signals gate signal ≡ signal =
          sym (get_or-append signals (host_signal outputs ∷ []) signal gate before)
          ∙ get_or_from_slice_get
          (signals ++ host_signal outputs ∷ []) gate signal signal found in
          let here : slice_get signals gate ≡ Some signal =
          slice_get-get_or signals gate signal before ∙ ap (λ s. Some s) same in
          rw here reads
      | inr suffix ↦
          let within = slice_get_within (signals ++ host_signal outputs ∷ []) gate signal found in
          let last : gate ≡ length signals =
          omega (arith, length_push signals (host_signal outputs)) in
          let here : get_or (signals ++ host_signal outputs ∷ []) (length signals) signal ≡ signal =
          subst (λ n. get_or (signals ++ host_signal outputs ∷ []) n signal ≡ signal) last
          (get_or_from_slice_get
          (signals ++ host_signal outputs ∷ []) gate signal signal found) in
          let same : host_signal outputs ≡ signal =
          sym (get_or-append_seam signals (host_signal outputs) [] signal) ∙ here in
          let no_gate : is_gate signal.kind ≡ false = ap (λ s. is_gate s.kind) (sym same) in
          cc (reads.0)
    ]

-- so does a chain of gates
follows_bare : (signals : List Signal) (outputs : List ℕ) (first : ℕ) (gates : List ℕ) (last : ℕ)
    → Follows (signals ++ host_signal outputs ∷ []) first gates last
    → Follows signals first gates last
follows_bare signals outputs first [] last follows = follows
follows_bare signals outputs first (gate ∷ gates) last follows = (
  reads_bare signals outputs gate first follows.0,
  follows_bare signals outputs gate gates last follows.1,
)

-- so the host is on no ring of gates
loop_bare : (signals : List Signal) (outputs : List ℕ) (loop : List ℕ)
    → IsLoop (signals ++ host_signal outputs ∷ []) loop → IsLoop signals loop
loop_bare signals outputs [] ring = ring
loop_bare signals outputs (first ∷ gates) (last, follows, closes) = (
  last,
  follows_bare signals outputs first gates last follows,
  reads_bare signals outputs first last closes,
)

-- with the host there is a ring of gates only where there was one
pub acyclic_hosted : (tech : Tech) (bare circuit : Circuit)
    → ((loop : List ℕ) → IsLoop bare.signals loop → ⊥) → IsHostedBy tech bare circuit
    → (loop : List ℕ) → IsLoop circuit.signals loop → ⊥
acyclic_hosted tech bare circuit acyclic hosted loop ring = at (nat_eq (length tech.host) 0) hosted
  where
    at : (none : Bool) → MatchBool none (circuit ≡ bare) (IsWithHost bare circuit) → ⊥
    at true same = acyclic loop (subst (λ c. IsLoop c.signals loop) same ring)
    at false with_it = acyclic loop
        (loop_bare bare.signals bare.outputs loop
        (subst (λ signals. IsLoop signals loop) with_it.signals ring))

-- a circuit of an accepted netlist has no ring of gates
pub acyclic : (netlist : List ℕ) (circuit : Circuit) → AcceptsNetlist netlist circuit
    → (loop : List ℕ) → IsLoop circuit.signals loop → ⊥
acyclic netlist circuit accepts loop ring =
    accepts.netlist.no_loop loop (subst (λ signals. IsLoop signals loop) accepts.signals ring)

-- nor has one that a netlist and a delay table tell
pub both_acyclic : (netlist table : List ℕ) (circuit : Circuit) (tech : Tech)
    → TellBoth netlist table circuit tech → (loop : List ℕ) → IsLoop circuit.signals loop → ⊥
both_acyclic netlist table circuit tech tell =
    acyclic_hosted tech tell.bare circuit (acyclic netlist tell.bare tell.accepts) tell.hosted
