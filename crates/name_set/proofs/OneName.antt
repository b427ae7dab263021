-- A circuit's signals and registers are determined by their names.
use Rattle.std.proofs.Common.{◌≡◌, ◌<◌, ◌≤◌, ◌+◌, ℕ, suc, zero, Bool, true, false, cond, if◌then◌else◌, List, [], ◌∷◌, Some, None, get_or, length, inl, inr, refl, sym, ◌∙◌, arith}
use Rattle.std.specs.List.{filter_map, enumerate_from, cons_option}
use Rattle.std.proofs.lemmas.Bool.{cases_lt}
use Rattle.std.proofs.lemmas.Option.{slice_get_cases, slice_get-get_or, slice_get_within}
use Rattle.cts_model.specs.declared.signal.Signal.{Signal}
use Rattle.cts_model.specs.declared.circuit.Circuit.{Circuit}
use Rattle.cts_model.specs.Vocabulary.{has_host, register_number, is_register, register_name, signal_name}
use Rattle.cts_model.proofs.CircuitLemmas.{registered}

-- the numbers of the registers among signals that are numbered from the first on
abbrev numbers : ℕ → List Signal → List ℕ
numbers first signals = filter_map register_number (enumerate_from first signals)

-- none is below the first
no_lower : (first : ℕ) (signals : List Signal) (place : ℕ) → place < length (numbers first signals)
    → first ≤ get_or (numbers first signals) place 0
no_lower first [] place within = absurd (omega arith)
no_lower first (signal ∷ signals) place within =
    at (is_register signal.kind) place within (λ p. no_lower (first + 1) signals p)
  where
    at : (register : Bool) (place : ℕ)
        → place < length (cons_option (if register then Some first else None)
        (numbers (first + 1) signals)) → ((p : ℕ) → p < length (numbers (first + 1) signals)
        → first + 1 ≤ get_or (numbers (first + 1) signals) p 0)
        → first ≤ get_or (cons_option (if register then Some first else None)
        (numbers (first + 1) signals)) place 0
    at false place within rest = omega (arith, rest place within)
    at true zero within rest = omega arith
    at true (suc place) within rest = omega (arith, rest place (omega arith))

-- and each is above the ones before
rising : (first : ℕ) (signals : List Signal) (place later : ℕ) → place < later
    → later < length (numbers first signals)
    → get_or (numbers first signals) place 0 < get_or (numbers first signals) later 0
rising first [] place later before within = absurd (omega arith)
rising first (signal ∷ signals) place later before within =
    at (is_register signal.kind) place later before within (rising (first + 1) signals)
    (no_lower (first + 1) signals)
  where
    at : (register : Bool) (place later : ℕ) → place < later
        → later < length (cons_option (if register then Some first else None)
        (numbers (first + 1) signals))
        → ((p q : ℕ) → p < q → q < length (numbers (first + 1) signals)
        → get_or (numbers (first + 1) signals) p 0 < get_or (numbers (first + 1) signals) q 0)
        → ((p : ℕ) → p < length (numbers (first + 1) signals)
        → first + 1 ≤ get_or (numbers (first + 1) signals) p 0)
        → get_or (cons_option (if register then Some first else None)
        (numbers (first + 1) signals)) place 0
        < get_or (cons_option (if register then Some first else None)
        (numbers (first + 1) signals)) later 0
    at false place later before within rest low = rest place later before within
    at true place zero before within rest low = absurd (omega arith)
    at true zero (suc later) before within rest low = omega (arith, low later (omega arith))
    at true (suc place) (suc later) before within rest low =
        rest place later (omega arith) (omega arith)

-- there are at most 4,097 registers
pub few_registers : (circuit : Circuit) → length circuit.registers ≤ 4097
few_registers circuit = at (has_host circuit.signals) circuit.valid.few_registers
  where
    at : (host : Bool) → length circuit.registers ≤ 4096 + cond host 1 0
        → length circuit.registers ≤ 4097
    at true few = omega (arith, few)
    at false few = omega (arith, few)

-- what is printed for a signal is its name
signal_name_is : (circuit : Circuit) (number : ℕ) (default : Signal)
    → number < length circuit.signals
    → signal_name circuit number ≡ (get_or circuit.signals number default).name
signal_name_is circuit number default within =
    rw (slice_get-get_or circuit.signals number default within) refl

-- a signal is determined by its name
pub one_signal : (circuit : Circuit) (a b : ℕ) → a < length circuit.signals
    → b < length circuit.signals → signal_name circuit a ≡ signal_name circuit b → a ≡ b
one_signal circuit a b within within' same = elim ((slice_get_cases circuit.signals a).1) [
  | inl found ↦
      let names = sym (signal_name_is circuit a found.0 within) ∙ same
      ∙ signal_name_is circuit b found.0 within' in
      elim (cases_lt a b) [
        | inl before ↦
            absurd (circuit.valid.distinct a b found.0 before within' names)
        | inr not_before ↦ elim (cases_lt b a) [
          | inl after ↦
              absurd (circuit.valid.distinct b a found.0 after within (sym names))
          | inr not_after ↦ omega arith
        ]
      ]
  | inr past ↦ absurd (omega (arith, past.0))
]

-- what is printed for a register is the name of its signal
register_name_is : (circuit : Circuit) (register : ℕ) → register < length circuit.registers
    → register_name circuit register ≡ signal_name circuit (get_or circuit.registers register 0)
register_name_is circuit register within =
    rw (slice_get-get_or circuit.registers register 0 within) refl

-- the number of a register is that of a signal
number_within : (circuit : Circuit) (register : ℕ) → register < length circuit.registers
    → get_or circuit.registers register 0 < length circuit.signals
number_within circuit register within =
    let at = registered circuit register within in
    slice_get_within circuit.signals (get_or circuit.registers register 0) at.signal at.here

-- a later register has a higher number
higher : (circuit : Circuit) (a b : ℕ) → a < b → b < length circuit.registers
    → get_or circuit.registers a 0 < get_or circuit.registers b 0
higher circuit a b before within =
    let are = circuit.valid.registers_are in
    rw are (rising 0 circuit.signals a b before (rw are at within))

-- a register is determined by its name
pub one_register : (circuit : Circuit) (a b : ℕ) → a < length circuit.registers
    → b < length circuit.registers → register_name circuit a ≡ register_name circuit b → a ≡ b
one_register circuit a b within within' same =
    let number = one_signal circuit (get_or circuit.registers a 0) (get_or circuit.registers b 0)
    (number_within circuit a within) (number_within circuit b within')
    (sym (register_name_is circuit a within) ∙ same ∙ register_name_is circuit b within') in
    elim (cases_lt a b) [
      | inl before ↦ absurd (omega (arith, number, higher circuit a b before within'))
      | inr not_before ↦ elim (cases_lt b a) [
        | inl after ↦ absurd (omega (arith, number, higher circuit b a after within))
        | inr not_after ↦ omega arith
      ]
    ]
