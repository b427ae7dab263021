-- How many constraints a cycle has, and what paths of its constraints keep to.
use Rattle.cts_engine.proofs.Vocabulary.{◌≡◌, ◌≢◌, ◌<◌, ◌≤◌, ◌+◌, ◌-◌, ◌+ℤ◌, ◌-ℤ◌, ℕ, suc, Bool, true, false, cond, List, [], ◌∷◌, length, map, AllPairs, Option, Some, None, refl, sym, ap, subst, arith, IsSomeAnd, MatchBool, nat_le, slice_get, option_and_then, option_map_or, leb-true, Decides-eqb, length-map, All-contains, All-cons, All-map, All-nil, AllPairs-cons, slice_get_within, Circuit, Constraint, Signal, Tech, has_host, ArePathsWithin, GivesWeight, IsConstraintOf, IsCycle, greatest_delay, least_delay, is_host, Follows, IsInput, IsPath, Launches, tails_within, some_and}
use Rattle.std.proofs.Common.{All}
use Rattle.std.proofs.lemmas.Map.Made.{IsDistinct-from_AllPairs}
use Rattle.std.proofs.lemmas.Map.Steps.{length-le_from_distinct_below}
use Rattle.std.proofs.lemmas.Map.Views.{Contains-from_any}

-- ---- cycles

-- a circuit has few registers
pub few_registers : (circuit : Circuit) → length circuit.registers ≤ 4097
few_registers circuit = at (has_host circuit.signals) circuit.valid.few_registers
  where
    at : (host : Bool) → length circuit.registers ≤ 4096 + cond host 1 0
        → length circuit.registers ≤ 4097
    at true few = few
    at false few = omega arith

-- registers that are tails once are numbers that differ
tails_apart : (cycle : List Constraint) → AllPairs (λ first second. first.tail ≢ second.tail) cycle
    → AllPairs (λ x y. x ≢ y) (map (λ constraint. constraint.tail) cycle)
tails_apart [] apart = λ i j d before within. absurd (omega arith)
tails_apart (constraint ∷ cycle) apart =
    AllPairs-cons (λ x y. x ≢ y) constraint.tail (map (λ (c : Constraint). c.tail) cycle)
    (All-map (λ tail. constraint.tail ≢ tail) (λ (c : Constraint). c.tail) cycle
    (λ j d within. apart 0 (suc j) d (omega arith) (omega arith)))
    (tails_apart cycle (λ i j d before within. apart (suc i) (suc j) d (omega arith) (omega arith)))

-- a cycle of a circuit's constraints has at most as many constraints as there are registers
pub cycle_within : (circuit : Circuit) (tech : Tech) (cycle : List Constraint)
    → All (IsConstraintOf circuit tech) cycle → IsCycle cycle
    → length cycle ≤ length circuit.registers
cycle_within circuit tech cycle of_circuit is_cycle =
    let tails = map (λ (constraint : Constraint). constraint.tail) cycle in
    let within = All-map (λ tail. tail < length circuit.registers)
    (λ (constraint : Constraint). constraint.tail) cycle
    (tails_within circuit tech cycle of_circuit) in
    let few = length-le_from_distinct_below tails (length circuit.registers)
    (IsDistinct-from_AllPairs Decides-eqb tails (tails_apart cycle is_cycle.once))
    (λ tail found. All-contains (λ t. t < length circuit.registers) tails tail within
    (Contains-from_any (λ x y. (Decides-eqb x y).0) tail tails found)) in
    omega (arith, length-map cycle (λ (constraint : Constraint). constraint.tail))

-- and at least one
pub cycle_some : (cycle : List Constraint) → IsCycle cycle → 1 ≤ length cycle
cycle_some [] is_cycle = absurd is_cycle.closed
cycle_some (constraint ∷ cycle) is_cycle = omega arith

-- ---- paths

-- what a register launches is a signal
launched_within : (circuit : Circuit) (from number : ℕ) → Launches circuit from number
    → number < length circuit.signals
launched_within circuit from number launches =
    at (slice_get circuit.registers from) refl launches
  where
    by_kind : (host : Bool) (found : ℕ) (signal : Signal)
        → slice_get circuit.signals found ≡ Some signal
        → MatchBool host (IsInput circuit number) (Some found ≡ Some number)
        → number < length circuit.signals
    by_kind true found signal here input =
        let (it, there, is) = some_and (slice_get circuit.signals number) _ input in
        slice_get_within circuit.signals number it there
    by_kind false found signal here same = subst (λ n. n < length circuit.signals)
        (ap (λ o. option_map_or (λ n. n) o 0) same)
        (slice_get_within circuit.signals found signal here)

    at_signal : (found : ℕ) (o : Option Signal) → slice_get circuit.signals found ≡ o
        → IsSomeAnd o (λ signal. MatchBool (is_host signal.kind) (IsInput circuit number)
        (Some found ≡ Some number)) → number < length circuit.signals
    at_signal found None here none = absurd none
    at_signal found (Some signal) here one = by_kind (is_host signal.kind) found signal here one

    at : (listed : Option ℕ) → slice_get circuit.registers from ≡ listed
        → IsSomeAnd (option_and_then (slice_get circuit.signals) listed)
        (λ signal. MatchBool (is_host signal.kind) (IsInput circuit number)
        (listed ≡ Some number)) → number < length circuit.signals
    at None missing none = absurd none
    at (Some found) here one = at_signal found (slice_get circuit.signals found) refl one

-- so are the gates after it
gates_within : (circuit : Circuit) (first : ℕ) (gates : List ℕ) (last : ℕ)
    → Follows circuit.signals first gates last → All (λ n. n < length circuit.signals) gates
gates_within circuit first [] last follows = All-nil (λ n. n < length circuit.signals)
gates_within circuit first (gate ∷ gates) last follows =
    let (it, here, is) = some_and (slice_get circuit.signals gate) _ follows.0 in
    All-cons (λ n. n < length circuit.signals) gate gates
    (slice_get_within circuit.signals gate it here)
    (gates_within circuit gate gates last follows.1)

-- a path is of the circuit's signals
pub path_signals_within : (circuit : Circuit) (from to : ℕ) (path : List ℕ)
    → IsPath circuit from to path → All (λ n. n < length circuit.signals) path
path_signals_within circuit from to [] is_path = absurd is_path
path_signals_within circuit from to (first ∷ gates) (launches, (last, follows, captures)) =
    All-cons (λ n. n < length circuit.signals) first gates
    (launched_within circuit from first launches)
    (gates_within circuit first gates last follows)

-- and so is one that gives a weight
weight_path_within : (circuit : Circuit) (tech : Tech) (constraint : Constraint) (path : List ℕ)
    → GivesWeight circuit tech constraint path → All (λ n. n < length circuit.signals) path
weight_path_within circuit tech constraint path gives = at constraint.setup gives
  where
    at : (setup : Bool) → MatchBool setup
        (IsPath circuit constraint.tail constraint.head path
        × (greatest_delay circuit tech path +ℤ tech.setup ≡ constraint.weight))
        (IsPath circuit constraint.head constraint.tail path
        × (tech.hold -ℤ least_delay circuit tech path ≡ constraint.weight))
        → All (λ n. n < length circuit.signals) path
    at true is = path_signals_within circuit constraint.tail constraint.head path is.0
    at false is = path_signals_within circuit constraint.head constraint.tail path is.0

-- what the paths of constraints are: as many, of the circuit's signals, and none longer than the
-- room
pub record ArePlainPaths (circuit : Circuit) (room : ℕ) (cycle : List Constraint)
    (paths : List (List ℕ)) : Type 0 where
  pub all : length paths ≡ length cycle
  pub each : All (All (λ n. n < length circuit.signals)) paths
  pub short : All (λ path. length path ≤ room) paths

pub plain_paths : (circuit : Circuit) (tech : Tech) (room : ℕ) (cycle : List Constraint)
    → (paths : List (List ℕ)) → ArePathsWithin circuit tech room cycle paths
    → ArePlainPaths circuit room cycle paths
plain_paths circuit tech room [] [] within = record {
  all = refl;
  each = All-nil (All (λ n. n < length circuit.signals));
  short = All-nil (λ (path : List ℕ). length path ≤ room);
}
plain_paths circuit tech room [] (path ∷ paths) within = absurd within
plain_paths circuit tech room (constraint ∷ cycle) [] within = absurd within
plain_paths circuit tech room (constraint ∷ cycle) (path ∷ paths) (whole, gives, rest) =
    at (λ left more. plain_paths circuit tech left cycle paths more) (nat_le (length whole) room)
    refl rest
  where
    put : (left : ℕ) → left ≤ room → length path ≤ room
        → All (λ n. n < length circuit.signals) path → ArePlainPaths circuit left cycle paths
        → ArePlainPaths circuit room (constraint ∷ cycle) (path ∷ paths)
    put left less short numbers plain = record {
      all = ap suc plain.all;
      each = All-cons (All (λ n. n < length circuit.signals)) path paths numbers plain.each;
      short = All-cons (λ (path : List ℕ). length path ≤ room) path paths short
          (λ place default here. omega (arith, less, plain.short place default here));
    }

    at : ((left : ℕ) → ArePathsWithin circuit tech left cycle paths
        → ArePlainPaths circuit left cycle paths)
        → (fits : Bool) → nat_le (length whole) room ≡ fits → MatchBool fits
        ((path ≡ whole) × ArePathsWithin circuit tech (room - length whole) cycle paths)
        ((path ≡ []) × ArePathsWithin circuit tech room cycle paths)
        → ArePlainPaths circuit room (constraint ∷ cycle) (path ∷ paths)
    at plain true fits (same, more) = put (room - length whole) (omega arith)
        (omega (arith, leb-true (length whole) room fits, ap (λ p. length p) same))
        (subst (All (λ n. n < length circuit.signals)) (sym same)
        (weight_path_within circuit tech constraint whole gives))
        (plain (room - length whole) more)
    at plain false fits (none, more) = put room (omega arith)
        (omega (arith, ap (λ p. length p) none))
        (subst (All (λ n. n < length circuit.signals)) (sym none)
        (All-nil (λ n. n < length circuit.signals)))
        (plain room more)
