-- What a register launches: a signal that is no gate.
use Rattle.path_delays.proofs.Vocabulary.{◌≡◌, ◌↔◌, ◌<◌, ◌+◌, ℕ, Bool, true, false, cond, IsTrue, List, [], ◌∷◌, ◌++◌, length, take, drop, get_or, All, Contains, MatchBool, IsSomeAnd, Option, Some, None, inl, inr, refl, sym, ◌∙◌, ap, subst, arith, append-nil, slice_get, cases_lt, true≢false, get_or-drop, get_or-take, length-drop, length-take, Contains-append_left, Contains-get_or, Contains-push, Contains-push_cases, slice_get_within, slice_get-get_or, get_or_from_slice_get, Kind, Input, Dff, Host, Signal, Circuit, is_gate, is_host, is_input, is_register, IsInput, Launches, register_signal, some_and, AreLaunchedBy, AreInputs, AreInputsBelow, AreRanks}
use Rattle.cts_model.proofs.CircuitLemmas.{IsRegisterAt, registered}

-- a primary input is no gate
input_is_no_gate : (kind : Kind) → is_input kind ≡ true → is_gate kind ≡ false
input_is_no_gate Input e = refl
input_is_no_gate _ e = cc

-- nor is a register
register_is_no_gate : (kind : Kind) → is_register kind ≡ true → is_gate kind ≡ false
register_is_no_gate Dff e = refl
register_is_no_gate Host e = refl
register_is_no_gate _ e = cc

-- the number that is listed for a register is that of a register
listed_register : (circuit : Circuit) (from number : ℕ)
    → slice_get circuit.registers from ≡ Some number → IsRegisterAt circuit.signals number
listed_register circuit from number listed =
    subst (IsRegisterAt circuit.signals)
    (get_or_from_slice_get circuit.registers from number 0 listed)
    (registered circuit from (slice_get_within circuit.registers from number listed))

-- what is launched is a signal that is no gate
pub launched_at : (circuit : Circuit) (from number : ℕ) → Launches circuit from number
    → (signal : Signal) × (slice_get circuit.signals number ≡ Some signal)
    × (is_gate signal.kind ≡ false)
launched_at circuit from number launches = at (register_signal circuit from) launches
  where
    by_kind : (host : Bool)
        → MatchBool host (IsInput circuit number) (slice_get circuit.registers from ≡ Some number)
        → (signal : Signal) × (slice_get circuit.signals number ≡ Some signal)
        × (is_gate signal.kind ≡ false)
    by_kind true is_one =
        let found = some_and (slice_get circuit.signals number)
        (λ signal. IsTrue (is_input signal.kind)) is_one in
        (found.0, found.1, input_is_no_gate found.0.kind found.2)
    by_kind false listed =
        let found = listed_register circuit from number listed in
        (found.signal, found.here, register_is_no_gate found.signal.kind found.register)

    at : (o : Option Signal)
        → IsSomeAnd o (λ signal. MatchBool (is_host signal.kind) (IsInput circuit number)
        (slice_get circuit.registers from ≡ Some number))
        → (signal : Signal) × (slice_get circuit.signals number ≡ Some signal)
        × (is_gate signal.kind ≡ false)
    at None none = absurd none
    at (Some signal) one = by_kind (is_host signal.kind) one

-- so its number is that of a signal
pub launched_within : (circuit : Circuit) (from number : ℕ) → Launches circuit from number
    → number < length circuit.signals
launched_within circuit from number launches = grind (arith, launched_at, slice_get_within)

-- and so is each of those that it launches
pub all_within : (circuit : Circuit) (from : ℕ) (launched : List ℕ)
    → AreLaunchedBy circuit from launched → All (λ signal. signal < length circuit.signals) launched
all_within circuit from launched are k d inside = launched_within circuit from (get_or launched k d)
    ((are (get_or launched k d)).0 (Contains-get_or launched k d inside))

-- and its rank is 0
pub launched_lowest : (circuit : Circuit) (from number : ℕ) (order ranks : List ℕ)
    → AreRanks circuit.signals order ranks → Launches circuit from number
    → get_or ranks number 0 ≡ 0
launched_lowest circuit from number order ranks are launches = grind (arith, cases_lt, launched_at)

-- the host launches the inputs
pub host_launches : (circuit : Circuit) (from : ℕ) (register : Signal)
    → register_signal circuit from ≡ Some register → is_host register.kind ≡ true → (number : ℕ)
    → Launches circuit from number ↔ IsInput circuit number
host_launches circuit from register here host number =
    (λ launches. rw (here, host) at launches, λ input. rw (here, host) input)

-- any other register its own signal
pub register_launches : (circuit : Circuit) (from : ℕ) (register : Signal)
    → register_signal circuit from ≡ Some register → is_host register.kind ≡ false → (number : ℕ)
    → Launches circuit from number ↔ (slice_get circuit.registers from ≡ Some number)
register_launches circuit from register here host number =
    (λ launches. rw (here, host) at launches, λ listed. rw (here, host) listed)

-- so the host launches these inputs
pub inputs_launched : (circuit : Circuit) (from : ℕ) (inputs : List ℕ) (register : Signal)
    → register_signal circuit from ≡ Some register → is_host register.kind ≡ true
    → AreInputs circuit inputs → AreLaunchedBy circuit from inputs
inputs_launched circuit from inputs register here host are number = grind (arith, host_launches)

-- and any other register its own signal alone
pub own_launched : (circuit : Circuit) (from : ℕ) (register : Signal)
    → register_signal circuit from ≡ Some register → is_host register.kind ≡ false
    → from < length circuit.registers
    → AreLaunchedBy circuit from (take 1 (drop from circuit.registers))
own_launched circuit from register here other within number = (
  λ (place, inside, stands).
      let first : place ≡ 0 = omega (arith, inside, length-take 1 (drop from registers)) in
      (launches number).1 (slice_get-get_or registers from number within
      ∙ ap (λ n. Some n) (sym (same number)
      ∙ (ap (λ k. get_or one k number) (sym first) ∙ stands))),
  λ launched.
      let own : slice_get registers from ≡ Some number = (launches number).0 launched in (
        0,
        omega (arith, length-take 1 (drop from registers), length-drop from registers, within),
        same number ∙ get_or_from_slice_get registers from number number own,
      ),
)
  where
    registers : List ℕ
    registers = circuit.registers

    one : List ℕ
    one = take 1 (drop from registers)

    launches : (number : ℕ)
        → Launches circuit from number ↔ (slice_get registers from ≡ Some number)
    launches = register_launches circuit from register here other

    same : (default : ℕ) → get_or one 0 default ≡ get_or registers from default
    same default = get_or-take 1 (drop from registers) 0 default (omega arith)
        ∙ (get_or-drop from registers 0 default
        ∙ ap (λ k. get_or registers k default) (omega arith))

-- no input yet
pub inputs_none : (circuit : Circuit) → AreInputsBelow circuit 0 []
inputs_none circuit number =
    (λ (place, inside, stands). absurd (omega arith), λ (low, is). absurd (omega arith))

-- one signal more
pub inputs_next : (circuit : Circuit) (number : ℕ) (inputs : List ℕ) (signal : Signal)
    → slice_get circuit.signals number ≡ Some signal → AreInputsBelow circuit number inputs
    → AreInputsBelow circuit (number + 1)
    (inputs ++ cond (is_input signal.kind) (number ∷ []) [])
inputs_next circuit number inputs signal here so_far = at (is_input signal.kind) refl
  where
    at : (b : Bool) → is_input signal.kind ≡ b
        → AreInputsBelow circuit (number + 1) (inputs ++ cond b (number ∷ []) [])
    at true is_one = λ other. (
      λ listed. elim (Contains-push_cases inputs number other listed) [
        | inl before ↦
            let was = (so_far other).0 before in (omega (arith, was.0), was.1)
        | inr last ↦ (omega (arith, last), subst (IsInput circuit) last (rw here is_one))
      ],
      λ (low, is). elim (cases_lt other number) [
        | inl before ↦
            Contains-append_left inputs (number ∷ []) other ((so_far other).1 (before, is))
        | inr past ↦ subst (Contains (inputs ++ number ∷ [])) (let same : number ≡ other =
            omega (arith, low, past) in same) (Contains-push inputs number)
      ],
    )
    at false is_none = subst (AreInputsBelow circuit (number + 1)) (sym (append-nil inputs))
        (λ other. (
          λ listed. let was = (so_far other).0 listed in (omega (arith, was.0), was.1),
          λ (low, is). elim (cases_lt other number) [
            | inl before ↦ (so_far other).1 (before, is)
            | inr past ↦ absurd (no_input other (omega (arith, low, past)) is)
          ],
        ))
      where
        no_input : (other : ℕ) → number ≡ other → IsInput circuit other → ⊥
        no_input other same is =
            let own : IsInput circuit number = subst (IsInput circuit) (sym same) is in
            true≢false (sym (rw here at own) ∙ is_none)

-- all of them
pub inputs_all : (circuit : Circuit) (inputs : List ℕ)
    → AreInputsBelow circuit (length circuit.signals) inputs → AreInputs circuit inputs
inputs_all circuit inputs are signal = grind (arith, some_and, slice_get_within)
