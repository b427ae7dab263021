-- The gates that wait for none from the start.
use Rattle.gate_order.proofs.Vocabulary.{◌≡◌, ◌≢◌, ◌+◌, ◌<◌, ◌==◌, ◌&&◌, ℕ, Bool, true, false, cond, List, [], ◌∷◌, ◌++◌, get_or, All, Contains, inl, inr, refl, sym, ◌∙◌, subst, arith, cases_lt, and_parts, and_from, false≢true, eq-eqb, eqb-true, append-nil, All-nil, All-push, All-weaker, Contains-push, Contains-append_left, all_pairs_push, Signal, IsGate, is_gate_at, AreIdleGates}
use Rattle.gate_order.proofs.ReadLemmas.{IsGate-from_test, test_from_IsGate}

-- there are none below 0
pub AreIdleGates-none : (signals : List Signal) (waiting : List ℕ)
    → AreIdleGates signals waiting 0 []
AreIdleGates-none signals waiting = record {
  lower = All-nil (λ gate. gate < 0);
  gates = All-nil (IsGate signals);
  idle = All-nil (λ gate. get_or waiting gate 0 ≡ 0);
  all = λ gate below is_one idle. absurd (omega arith);
  once = λ i j d before inside. absurd (omega arith);
}

-- and one more number, where it is such a gate
pub AreIdleGates-more : (signals : List Signal) (waiting : List ℕ) (number : ℕ) (order : List ℕ)
    → AreIdleGates signals waiting number order → AreIdleGates signals waiting (number + 1)
    (order ++ cond (is_gate_at signals number && (get_or waiting number 0 == 0)) (number ∷ []) [])
AreIdleGates-more signals waiting number order so_far =
    step (is_gate_at signals number && (get_or waiting number 0 == 0)) refl
  where
    lower : All (λ gate. gate < number + 1) order
    lower = All-weaker (λ gate. gate < number) (λ gate. gate < number + 1)
        (λ gate before. omega arith) order so_far.lower

    step : (b : Bool) → (is_gate_at signals number && (get_or waiting number 0 == 0)) ≡ b
        → AreIdleGates signals waiting (number + 1) (order ++ cond b (number ∷ []) [])
    step true passes =
        let both = and_parts (is_gate_at signals number) (get_or waiting number 0 == 0) passes in
        record {
          lower = All-push (λ gate. gate < number + 1) order number lower (omega arith);
          gates = All-push (IsGate signals) order number so_far.gates
              (IsGate-from_test signals number both.0);
          idle = All-push (λ gate. get_or waiting gate 0 ≡ 0) order number so_far.idle
              (eqb-true (get_or waiting number 0) 0 both.1);
          all = λ gate below is_one idle. elim (cases_lt gate number) [
            | inl earlier ↦
                Contains-append_left order (number ∷ []) gate (so_far.all gate earlier is_one idle)
            | inr last ↦
                let same : number ≡ gate = omega arith in
                subst (Contains (order ++ number ∷ [])) same (Contains-push order number)
          ];
          once = all_pairs_push (λ first second. first ≢ second) order number so_far.once
              (λ k d inside same. absurd (omega (arith, so_far.lower k d inside)));
        }
    step false fails = rw append-nil (record {
      lower = lower;
      gates = so_far.gates;
      idle = so_far.idle;
      all = λ gate below is_one idle. elim (cases_lt gate number) [
        | inl earlier ↦ so_far.all gate earlier is_one idle
        | inr last ↦
            let same : gate ≡ number = omega arith in
            let is_gate_here : is_gate_at signals number ≡ true =
            test_from_IsGate signals number (subst (IsGate signals) same is_one) in
            let idle_here : (get_or waiting number 0 == 0) ≡ true =
            eq-eqb (get_or waiting number 0) 0 (subst (λ n. get_or waiting n 0 ≡ 0) same idle) in
            absurd (false≢true (sym fails ∙ and_from (is_gate_at signals number)
            (get_or waiting number 0 == 0) is_gate_here idle_here))
      ];
      once = so_far.once;
    })
