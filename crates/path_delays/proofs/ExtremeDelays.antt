-- The greatest delays of paths, or the least: one proof for both.
use Rattle.path_delays.proofs.Vocabulary.{ℕ, ◌≡◌, Bool, true, false, List, [], ◌∷◌, ◌++◌, Option, refl, ap, arith, ℤ, pos, ◌+ℤ◌, slice_get, ints, Signal, Circuit, Tech, least_gate_delay, greatest_gate_delay, least_through, greatest_through, Sums, IsChain, AreExtreme, delay_by, extreme_of, IsNoFurther}

-- a register's own delay
abbrev pub own_by : Bool → Tech → ℤ
own_by true tech = tech.greatest
own_by false tech = tech.least

-- a gate's delay
abbrev pub gate_by : Bool → Tech → Option Signal → ℤ
gate_by true tech gate = greatest_gate_delay tech gate
gate_by false tech gate = least_gate_delay tech gate

-- the gates' delays, added up
abbrev pub through_by : Bool → Circuit → Tech → List ℕ → ℤ
through_by greatest circuit tech [] = pos 0
through_by greatest circuit tech (gate ∷ gates) =
    gate_by greatest tech (slice_get circuit.signals gate) +ℤ through_by greatest circuit tech gates

-- the greatest delays come to the same
greatest_is : (circuit : Circuit) (tech : Tech) (gates : List ℕ)
    → greatest_through circuit tech gates ≡ through_by true circuit tech gates
greatest_is circuit tech [] = refl
greatest_is circuit tech (gate ∷ gates) = grind (arith)

-- and so do the least
least_is : (circuit : Circuit) (tech : Tech) (gates : List ℕ)
    → least_through circuit tech gates ≡ through_by false circuit tech gates
least_is circuit tech [] = refl
least_is circuit tech (gate ∷ gates) = grind (arith)

-- a path's delay is that of its register and those of its gates
pub delay_is : (greatest : Bool) (circuit : Circuit) (tech : Tech) (first : ℕ) (gates : List ℕ)
    → delay_by greatest circuit tech (first ∷ gates)
    ≡ own_by greatest tech +ℤ through_by greatest circuit tech gates
delay_is true circuit tech first gates =
    ap (λ n. tech.greatest +ℤ n) (greatest_is circuit tech gates)
delay_is false circuit tech first gates = ap (λ n. tech.least +ℤ n) (least_is circuit tech gates)

-- with one gate more its delay comes on top
through_push : (greatest : Bool) (circuit : Circuit) (tech : Tech) (gates : List ℕ) (gate : ℕ)
    → through_by greatest circuit tech (gates ++ gate ∷ []) ≡ through_by greatest circuit tech gates
    +ℤ gate_by greatest tech (slice_get circuit.signals gate)
through_push greatest circuit tech [] gate = omega (arith, ints)
through_push greatest circuit tech (other ∷ gates) gate =
    let rest = through_push greatest circuit tech gates gate in omega (arith, ints, rest)

-- also after the register
pub delay_push : (greatest : Bool) (circuit : Circuit) (tech : Tech) (first : ℕ) (gates : List ℕ)
    (gate : ℕ)
    → delay_by greatest circuit tech (first ∷ gates ++ gate ∷ []) ≡ delay_by greatest circuit tech
    (first ∷ gates) +ℤ gate_by greatest tech (slice_get circuit.signals gate)
delay_push greatest circuit tech first gates gate =
    let whole = delay_is greatest circuit tech first (gates ++ gate ∷ []) in
    let prefix = delay_is greatest circuit tech first gates in
    let more = through_push greatest circuit tech gates gate in
    omega (arith, ints, whole, prefix, more)

-- the delays over all chains to a signal, the greatest or the least
pub record IsReachBy (greatest : Bool) (circuit : Circuit) (tech : Tech) (from signal : ℕ)
    (sums : Sums) : Type 0 where
  pub chain : List ℕ
  pub is_chain : IsChain circuit from signal chain
  pub shown : delay_by greatest circuit tech chain ≡ extreme_of greatest sums
  pub extreme : (other : List ℕ) → IsChain circuit from signal other
      → IsNoFurther greatest (delay_by greatest circuit tech other) (extreme_of greatest sums)

-- the one half of what a walk found
pub reach_by : (greatest : Bool) (circuit : Circuit) (tech : Tech) (from signal : ℕ) (sums : Sums)
    → AreExtreme circuit tech from signal sums → IsReachBy greatest circuit tech from signal sums
reach_by true circuit tech from signal sums reach = grind (arith)
reach_by false circuit tech from signal sums reach = grind (arith)

-- neither of two numbers is further than the other
pub same_extreme : (greatest : Bool) (one other : ℤ) → IsNoFurther greatest one other
    → IsNoFurther greatest other one → one ≡ other
same_extreme true one other below above = omega (arith, ints)
same_extreme false one other below above = omega (arith, ints)

-- what is no further than a number is no further than one beyond it
pub no_further_than : (greatest : Bool) (one middle other : ℤ) → IsNoFurther greatest one middle
    → IsNoFurther greatest middle other → IsNoFurther greatest one other
no_further_than true one middle other low high = omega (arith, ints)
no_further_than false one middle other low high = omega (arith, ints)

-- the same on top of both
pub no_further_after : (greatest : Bool) (one other more : ℤ) → IsNoFurther greatest one other
    → IsNoFurther greatest (one +ℤ more) (other +ℤ more)
no_further_after true one other more low = omega (arith, ints)
no_further_after false one other more low = omega (arith, ints)
