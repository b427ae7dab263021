-- The registers and the signals that names denote, and that no other number has the name of one.
use Rattle.report_text.proofs.Vocabulary.{◌≡◌, ◌<◌, ◌≤◌, ℕ, Bool, List, Result, Ok, Err, IfOk, IfErr, length, get_or, sym, ap, ◌∙◌, arith, true, false, ◌&&◌, cond, IsTrue, [], None, inl, inr, refl, ◌+◌, map, position, Option, Some, subst, range_with_len, bytes_eq, false_from_ne_true, cases_lt, get_or-range_with_len, length-range_with_len, length-map-range_with_len, position_or_len_is, bytes_eq-Decides, nat_tests, slice_get_past, slice_get_within, get_or_from_slice_get, Circuit, register_name, Signal, host_name, is_named, has_host, is_host, is_name, is_short, signal_name, one_register, one_signal, Register, Flaw, NamesRegister, WordHasFlaw, register_named, flaw_in, IsNumberOf}
use Rattle.cts_model.proofs.CircuitLemmas.{registered, register_signal_is}
use Rattle.name_set.proofs.NameNumbers.{found_below, missed_below}
use Rattle.report_text.specs.declared.field.Flaw.TheVariants as flaws

module _ (circuit : Circuit) (name : List ℕ) where
  -- it is the first number whose register has the name
  first_named : (number : ℕ) → number ≤ length circuit.registers
      → ((earlier : ℕ) → earlier < number → register_name circuit earlier ≡ name → ⊥)
      → (number < length circuit.registers → register_name circuit number ≡ name)
      → register_named circuit name ≡ number
  first_named number within none here =
      let count : ℕ = length circuit.registers in
      let test : ℕ → Bool = λ register. bytes_eq (register_name circuit register) name in
      let long = length-range_with_len 0 count in
      let numbers : List ℕ = range_with_len 0 count in
      let at : (k : ℕ) → k < count → get_or numbers k 0 ≡ k =
      λ k below. get_or-range_with_len 0 count k 0 below ∙ omega arith in
      position_or_len_is test numbers number 0 (omega (arith, long, within))
      (λ k before. ap test (at k (omega arith)) ∙ false_from_ne_true (test k)
      (λ same. none k before ((bytes_eq-Decides (register_name circuit k) name).0 same)))
      (λ below. ap test (at number (omega (arith, long, below)))
      ∙ (bytes_eq-Decides (register_name circuit number) name).1
      (here (omega (arith, long, below))))

  -- a register of that name has it
  pub named_register : (register : ℕ) → register < length circuit.registers
      → register_name circuit register ≡ name → register_named circuit name ≡ register
  named_register register within is = search (arith, first_named, one_register)

  -- where none has the name, it is the number of all
  pub unnamed_register : (NamesRegister circuit name → ⊥)
      → register_named circuit name ≡ length circuit.registers
  unnamed_register none =
      first_named _ (omega arith) (λ register before same. none (register, before, same))
      (λ past. absurd (omega (arith, past)))

  -- so is what is given for the name: the number that is read, or that of all
  pub name_read : (read : Result ℕ Flaw) (given other : ℕ)
      → WordHasFlaw circuit Register name (flaw_in read)
      → IfOk read (λ register. (name ≡ register_name circuit register)
      × (register < length circuit.registers)) → IfOk read (λ register. given ≡ register)
      → IfErr read (λ _. given ≡ other) → other ≡ length circuit.registers
      → given ≡ register_named circuit name
  name_read (Ok register) given other flaw is same none all = search (arith, named_register)
  name_read (Err flaws.Form) given other flaw is same none all = absurd (flaw tt)
  name_read (Err flaws.Unknown) given other flaw is same none all = search (arith, unnamed_register)
  name_read (Err flaws.Unfit) given other flaw is same none all = absurd (flaw.2 tt)
  name_read (Err flaws.Large) given other flaw is same none all = absurd (flaw.3 tt)

-- a signal's name isn't empty
named_some : (signal : Signal) → IsTrue (is_named signal) → signal.name ≡ [] → ⊥
named_some signal named none = at (is_host signal.kind) named
  where
    at : (host : Bool) → IsTrue (cond host (bytes_eq signal.name host_name)
        (is_name signal.name && is_short signal.name)) → ⊥
    at true same = search (arith, bytes_eq-Decides)
    at false both = search (arith, nat_tests)

-- nor is a register's
register_some : (circuit : Circuit) (register : ℕ) → register < length circuit.registers
    → register_name circuit register ≡ [] → ⊥
register_some circuit register within none =
    let at = registered circuit register within in
    let number = get_or circuit.registers register 0 in
    let here = get_or_from_slice_get circuit.signals number at.signal at.signal at.here in
    let named = circuit.valid.names number at.signal
    (slice_get_within circuit.signals number at.signal at.here) in
    let signal = register_signal_is circuit register within at.signal (sym here) in
    named_some at.signal (rw here at named) (rw signal at none)

-- the name of a register is that of no other number
pub other_register : (circuit : Circuit) (register other : ℕ) (name : List ℕ)
    → register < length circuit.registers → register_name circuit register ≡ name
    → (register ≡ other → ⊥) → register_name circuit other ≡ name → ⊥
other_register circuit register other name within is differs same =
    elim (cases_lt other (length circuit.registers)) [
      | inl within' ↦
          differs (one_register circuit register other within within' (is ∙ sym same))
      | inr past ↦
          register_some circuit _ within (is ∙ sym same ∙ nameless other (omega (arith, past)))
    ]
  where
    nameless : (number : ℕ) → length circuit.registers ≤ number → register_name circuit number ≡ []
    nameless number past = search (arith, slice_get_past)

-- the number that has that name of so many
pub number_denoted : (name_of : ℕ → List ℕ) (count : ℕ) (name : List ℕ) (names : List (List ℕ))
    → names ≡ map name_of (range_with_len 0 count)
    → IsNumberOf name_of count name (position (bytes_eq name) names)
number_denoted name_of count name names are =
    subst (λ (n : List (List ℕ)). IsNumberOf name_of count name (position (bytes_eq name) n))
    (sym are) (at (position (bytes_eq name) (map name_of (range_with_len 0 count))) refl)
  where
    at : (found : Option ℕ)
        → position (bytes_eq name) (map name_of (range_with_len 0 count)) ≡ found
        → IsNumberOf name_of count name found
    at (Some number) is = search (arith, found_below)
    at None is = λ other. missed_below name_of count name is other.0 other.1 other.2

-- the name of a signal is none of those before
pub signal_new : (circuit : Circuit) (number : ℕ) → number < length circuit.signals
    → (earlier : ℕ) → earlier < number → signal_name circuit earlier ≡ signal_name circuit number
    → ⊥
signal_new circuit number within earlier before same =
    omega (arith, one_signal circuit earlier number (omega arith) within same)

-- so many names have room
pub signals_few : (circuit : Circuit) (names : List (List ℕ)) (number : ℕ)
    → number < length circuit.signals
    → names ≡ map (signal_name circuit) (range_with_len 0 number) → length names < 65537
signals_few circuit names number within are =
    let long : length names ≡ number =
    ap length are ∙ length-map-range_with_len (signal_name circuit) 0 number in
    at (has_host circuit.signals) long circuit.valid.few_signals
  where
    at : (host : Bool) → length names ≡ number
        → length circuit.signals ≤ 65536 + cond host 1 0 → length names < 65537
    at true long few = omega (arith, long, within)
    at false long few = omega (arith, long, within)
