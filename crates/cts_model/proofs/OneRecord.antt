-- Circuits, tables and lists of used kinds with the same parts are one.
use Rattle.cts_model.proofs.Vocabulary.{ℕ, ◌≡◌, ◌<◌, ◌↔◌, zero, suc, List, [], ◌∷◌, length, get_or, Bool, true, false, IsTrue, refl, ap, sym, ◌∙◌, subst, ℤ, arith, same_lists, And, Nand, Or, Nor, Not, Xor, Xnor, Buff, Signal, Circuit, GateDelay, Tech, IsCircuit, IsTable, AreUsedKinds}
use Rattle.std.proofs.Props.{props}

-- ---- circuits

-- a circuit of its lists
circuit_of : (lists : List Signal × List ℕ × List ℕ) → IsCircuit lists.0 lists.1 lists.2 → Circuit
circuit_of lists valid =
    record { signals = lists.0; registers = lists.1; outputs = lists.2; valid = valid }

one_validity : (lists : List Signal × List ℕ × List ℕ) → IsProp (IsCircuit lists.0 lists.1 lists.2)
one_validity lists = hlevel props

-- circuits with the same lists are one
circuit_same : (lists others : List Signal × List ℕ × List ℕ) → lists ≡ others
    → (valid : IsCircuit lists.0 lists.1 lists.2) (valid' : IsCircuit others.0 others.1 others.2)
    → circuit_of lists valid ≡ circuit_of others valid'
unfolding circuit_of
circuit_same lists others same valid valid' =
    subst (λ (l : List Signal × List ℕ × List ℕ). (v : IsCircuit l.0 l.1 l.2)
    → circuit_of lists valid ≡ circuit_of l v) same
    (λ v. ap (circuit_of lists) (one_validity lists valid v)) valid'

pub same_circuit : (circuit other : Circuit) → circuit.signals ≡ other.signals
    → circuit.registers ≡ other.registers → circuit.outputs ≡ other.outputs → circuit ≡ other
unfolding circuit_of
same_circuit circuit other signals registers outputs =
    circuit_same (circuit.signals, circuit.registers, circuit.outputs)
    (other.signals, other.registers, other.outputs)
    (λ i. (signals i, registers i, outputs i)) circuit.valid other.valid

-- ---- tables

abbrev Numbers : Type 0
Numbers = ℤ × ℤ × List ℕ × ℤ × ℤ × ℤ × ℤ × List ℕ × ℤ × List GateDelay

-- a table of its numbers
pub tech_of : (numbers : Numbers)
    → IsTable numbers.0 numbers.1 numbers.3 numbers.4 numbers.5 numbers.6 numbers.8 numbers.9 → Tech
tech_of numbers valid = record {
  wire_num = numbers.0;
  wire_den = numbers.1;
  source = numbers.2;
  setup = numbers.3;
  hold = numbers.4;
  least = numbers.5;
  greatest = numbers.6;
  host = numbers.7;
  floor = numbers.8;
  gates = numbers.9;
  valid = valid;
}

one_table_validity : (numbers : Numbers)
    → IsProp (IsTable numbers.0 numbers.1 numbers.3 numbers.4 numbers.5 numbers.6 numbers.8
    numbers.9)
one_table_validity numbers = hlevel props

-- tables with the same numbers are one
pub same_numbers : (numbers others : Numbers) → numbers ≡ others
    → (valid : IsTable numbers.0 numbers.1 numbers.3 numbers.4 numbers.5 numbers.6 numbers.8
    numbers.9)
    (valid' : IsTable others.0 others.1 others.3 others.4 others.5 others.6 others.8 others.9)
    → tech_of numbers valid ≡ tech_of others valid'
unfolding tech_of
same_numbers numbers others same valid valid' =
    subst (λ (n : Numbers). (v : IsTable n.0 n.1 n.3 n.4 n.5 n.6 n.8 n.9)
    → tech_of numbers valid ≡ tech_of n v) same
    (λ v. ap (tech_of numbers) (one_table_validity numbers valid v)) valid'

pub same_tech : (tech other : Tech) → tech.wire_num ≡ other.wire_num
    → tech.wire_den ≡ other.wire_den → tech.source ≡ other.source → tech.setup ≡ other.setup
    → tech.hold ≡ other.hold
    → tech.least ≡ other.least → tech.greatest ≡ other.greatest → tech.host ≡ other.host
    → tech.floor ≡ other.floor → tech.gates ≡ other.gates → tech ≡ other
unfolding tech_of
same_tech tech other wire_num wire_den source setup hold least greatest host floor gates =
    same_numbers (
      tech.wire_num,
      tech.wire_den,
      tech.source,
      tech.setup,
      tech.hold,
      tech.least,
      tech.greatest,
      tech.host,
      tech.floor,
      tech.gates,
    ) (
      other.wire_num,
      other.wire_den,
      other.source,
      other.setup,
      other.hold,
      other.least,
      other.greatest,
      other.host,
      other.floor,
      other.gates,
    )
    (λ i. (
      wire_num i,
      wire_den i,
      source i,
      setup i,
      hold i,
      least i,
      greatest i,
      host i,
      floor i,
      gates i,
    )) tech.valid other.valid

-- ---- used kinds

-- what is true where the same holds is the same
same_test : (Property : Type 0) (test other : Bool) → IsTrue test ↔ Property
    → IsTrue other ↔ Property → test ≡ other
same_test Property true true is is' = refl
same_test Property false false is is' = refl
same_test Property true false is is' = sym (is'.1 (is.0 refl))
same_test Property false true is is' = is.1 (is'.0 refl)

same_place : (signals : List Signal) (used other : List Bool) → AreUsedKinds signals used
    → AreUsedKinds signals other → (place : ℕ) → place < 8
    → get_or used place false ≡ get_or other place false
same_place signals used other are are' zero within =
    same_test _ _ _ (are.each And refl) (are'.each And refl)
same_place signals used other are are' (suc zero) within =
    same_test _ _ _ (are.each Nand refl) (are'.each Nand refl)
same_place signals used other are are' (suc (suc zero)) within =
    same_test _ _ _ (are.each Or refl) (are'.each Or refl)
same_place signals used other are are' (suc (suc (suc zero))) within =
    same_test _ _ _ (are.each Nor refl) (are'.each Nor refl)
same_place signals used other are are' (suc (suc (suc (suc zero)))) within =
    same_test _ _ _ (are.each Not refl) (are'.each Not refl)
same_place signals used other are are' (suc (suc (suc (suc (suc zero))))) within =
    same_test _ _ _ (are.each Xor refl) (are'.each Xor refl)
same_place signals used other are are' (suc (suc (suc (suc (suc (suc zero)))))) within =
    same_test _ _ _ (are.each Xnor refl) (are'.each Xnor refl)
same_place signals used other are are' (suc (suc (suc (suc (suc (suc (suc zero))))))) within =
    same_test _ _ _ (are.each Buff refl) (are'.each Buff refl)
same_place signals used other are are'
    (suc (suc (suc (suc (suc (suc (suc (suc place)))))))) within = absurd (omega arith)

-- the item at a place within a list, whatever stands for none
any_default : {X : Type 0} (xs : List X) (place : ℕ) (x y : X) → place < length xs
    → get_or xs place x ≡ get_or xs place y
any_default [] place x y within = absurd (omega arith)
any_default (one ∷ xs) zero x y within = refl
any_default (one ∷ xs) (suc place) x y within = any_default xs place x y (omega arith)

-- the kinds that signals use are one list
pub one_use : (signals : List Signal) (used other : List Bool) → AreUsedKinds signals used
    → AreUsedKinds signals other → used ≡ other
one_use signals used other are are' =
    same_lists used other (are.eight ∙ sym are'.eight)
    (λ place default within.
    any_default used place default false within
    ∙ same_place signals used other are are' place (subst (λ n. place < n) are.eight within)
    ∙ any_default other place false default
    (subst (λ n. place < n) (are.eight ∙ sym are'.eight) within))
