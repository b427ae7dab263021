-- What a circuit's registers are: signals that are registers.
use Rattle.cts_model.proofs.Vocabulary.{ℕ, zero, suc, ◌≡◌, ◌<◌, ◌+◌, Bool, true, false, List, [], ◌∷◌, length, Some, refl, ap, sym, ◌∙◌, subst, arith, get_or, filter_map, enumerate_from, slice_get, slice_get-get_or, get_or_from_slice_get, Signal, Circuit, is_register, register_number, register_signal}

-- the signal of this number is a register
pub record IsRegisterAt (signals : List Signal) (number : ℕ) : Type 0 where
  pub signal : Signal
  pub here : slice_get signals number ≡ Some signal
  pub register : is_register signal.kind ≡ true

-- a number that is listed is that of a register
register_at : (first : ℕ) (signals : List Signal) (place number : ℕ)
    → slice_get (filter_map register_number (enumerate_from first signals)) place ≡ Some number
    → (i : ℕ) × (number ≡ first + i) × IsRegisterAt signals i
register_at first [] place number listed = cc
register_at first (signal ∷ signals) place number listed =
    at place listed (λ p. register_at (first + 1) signals p number) (is_register signal.kind) refl
  where
    later : (i : ℕ) × (number ≡ (first + 1) + i) × IsRegisterAt signals i
        → (i : ℕ) × (number ≡ first + i) × IsRegisterAt (signal ∷ signals) i
    later (i, same, found) = (
      suc i,
      omega arith,
      record { signal = found.signal; here = found.here; register = found.register },
    )

    at : (place : ℕ)
        → slice_get (filter_map register_number (enumerate_from first (signal ∷ signals))) place
        ≡ Some number
        → ((p : ℕ) → slice_get (filter_map register_number (enumerate_from (first + 1) signals)) p
        ≡ Some number → (i : ℕ) × (number ≡ (first + 1) + i) × IsRegisterAt signals i)
        → (b : Bool) → is_register signal.kind ≡ b
        → (i : ℕ) × (number ≡ first + i) × IsRegisterAt (signal ∷ signals) i
    at place listed rest false other = later (rest place (rw other at listed))
    at zero listed rest true register =
        let here = rw register at listed in
        let same : first ≡ number = cc here in
        (0, omega arith, record { signal = signal; here = refl; register = register })
    at (suc place) listed rest true register = later (rest place (rw register at listed))

-- each register is a signal
pub registered : (circuit : Circuit) (register : ℕ) → register < length circuit.registers
    → IsRegisterAt circuit.signals (get_or circuit.registers register 0)
registered circuit register within =
    let number = get_or circuit.registers register 0 in
    let found : (i : ℕ) × (number ≡ 0 + i) × IsRegisterAt circuit.signals i =
    register_at 0 circuit.signals register number
    (rw (← circuit.valid.registers_are) (slice_get-get_or circuit.registers register 0 within)) in
    let same : found.0 ≡ number = omega arith in
    subst (IsRegisterAt circuit.signals) same found.2

-- the signal that was read from the lists is the register's
pub register_signal_is : (circuit : Circuit) (register : ℕ) → register < length circuit.registers
    → (signal : Signal)
    → signal ≡ get_or circuit.signals (get_or circuit.registers register 0) signal
    → register_signal circuit register ≡ Some signal
register_signal_is circuit register within signal read =
    let at = registered circuit register within in
    let listed = slice_get-get_or circuit.registers register 0 within in
    let same : at.signal ≡ signal =
    sym (read ∙ get_or_from_slice_get circuit.signals
    (get_or circuit.registers register 0) at.signal signal at.here) in
    rw (listed, at.here) (ap (λ s. Some s) same)
