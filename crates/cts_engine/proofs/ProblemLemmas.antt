-- What the texts of a problem tell keeps to what a problem is: its delays serve its circuit, which
-- has the host where the table gives it a place, and its registers have places that aren't far
-- away.
use Rattle.cts_engine.proofs.Vocabulary.{◌≡◌, ◌≢◌, ◌≤◌, ◌^◌, ◌==◌, ◌↔◌, ℕ, ℤ, pos, negsuc, Bool, true, false, IsTrue, List, [], ◌∷◌, length, map, ◌++◌, cond, Option, Some, None, Result, Ok, Err, refl, sym, ap, ◌∙◌, subst, true≢false, arith, Decides-eqb, ints, get_or_default, length-map, All-append, All-cons, All-nil, option_map, option_to_list, Circuit, Places, Point, Signal, Tech, GivesKinds, has_host, host_signal, delay_of, HasNoHost, IsWithHost, is_gate, IsLoop, IsBelow, IsPointBelow, GivesUsedKinds, IsProblem, AreUsedKinds, AcceptsPlacement, place_by, placed_at, places_after, register_nodes, IsHostedBy}
use Rattle.std.proofs.Common.{nat_abs, MatchBool, All}
use Rattle.std.specs.Result.{result_ok}
use Rattle.std.specs.Str.{bytes_eq}
use Rattle.cts_base.specs.Decimals.{micros_of}
use Rattle.cts_base.specs.Lines.{lines_of}
use Rattle.cts_base.specs.declared.number.NumberFault.{NumberFault}
use Rattle.cts_base.proofs.Micros.{micros_within}
use Rattle.cts_model.specs.Vocabulary.{point_from, point_of, Node, Entry, Blank, Header, Stands, entry_after}
use Rattle.cts_model.proofs.HostedCircuits.{has_host-with_host}
use Rattle.place_reader.proofs.TellsPlaces.{accepted_gives}

-- ---- delays

-- the table gives the kind of the signal, if it is a gate
abbrev Serves : Tech → Signal → Type 0
Serves tech signal = IsTrue (is_gate signal.kind) → IsTrue (delay_of tech signal.kind).given

-- a table that gives the kinds that a circuit uses serves it
pub gives_used : (circuit : Circuit) (tech : Tech) (used : List Bool)
    → AreUsedKinds circuit.signals used → GivesKinds used tech → GivesUsedKinds circuit tech
gives_used circuit tech used are gives number signal within gate = search (arith, get_or_default)

-- what serves a circuit serves it with the host too
pub gives_hosted : (tech : Tech) (bare circuit : Circuit) → GivesUsedKinds bare tech
    → IsHostedBy tech bare circuit → GivesUsedKinds circuit tech
gives_hosted tech bare circuit gives hosted = at (length tech.host == 0) hosted
  where
    at : (none : Bool) → MatchBool none (circuit ≡ bare) (IsWithHost bare circuit)
        → GivesUsedKinds circuit tech
    at true same = subst (λ c. GivesUsedKinds c tech) (sym same) gives
    at false with_it =
        subst (λ signals. All (Serves tech) signals) (sym with_it.signals)
        (All-append (Serves tech) bare.signals (host_signal bare.outputs ∷ []) gives
        (All-cons (Serves tech) (host_signal bare.outputs) []
        (λ gate. absurd (true≢false (sym gate))) (All-nil (Serves tech))))

-- ---- the host

-- no bytes are none
no_bytes : (bytes : List ℕ) → length bytes ≡ 0 → bytes ≡ []
no_bytes [] none = refl
no_bytes (byte ∷ bytes) none = absurd (omega arith)

-- no place is given to the host exactly where it isn't there
pub hostless_exactly : (circuit : Circuit) (place : List ℕ)
    → IsTrue (has_host circuit.signals) ↔ (place ≢ []) → (place ≡ []) ↔ HasNoHost circuit
hostless_exactly circuit = at (has_host circuit.signals)
  where
    at : (has : Bool) (place : List ℕ) → IsTrue has ↔ (place ≢ []) → (place ≡ []) ↔ (has ≡ false)
    at true place exactly = (
      λ nothing. absurd (exactly.0 refl nothing),
      λ hostless. absurd (true≢false hostless),
    )
    at false [] exactly = (λ nothing. refl, λ hostless. refl)
    at false (byte ∷ place) exactly = absurd (true≢false (sym (exactly.1 (λ nothing. cc nothing))))

-- the host is there where the table gives it a place
pub has_host-hosted : (tech : Tech) (bare circuit : Circuit) → HasNoHost bare
    → IsHostedBy tech bare circuit → IsTrue (has_host circuit.signals) ↔ (tech.host ≢ [])
has_host-hosted tech bare circuit none hosted = at (length tech.host == 0) refl hosted
  where
    at : (empty : Bool) → (length tech.host == 0) ≡ empty
        → MatchBool empty (circuit ≡ bare) (IsWithHost bare circuit)
        → IsTrue (has_host circuit.signals) ↔ (tech.host ≢ [])
    at true is same = (
      λ has. absurd (true≢false (sym has ∙ ap (λ (c : Circuit). has_host c.signals) same ∙ none)),
      λ some. absurd (some (no_bytes tech.host ((Decides-eqb (length tech.host) 0).0 is))),
    )
    at false is with_it = (
      λ has nothing. true≢false (sym (ap (λ (host : List ℕ). length host == 0) nothing) ∙ is),
      λ some. has_host-with_host bare circuit with_it,
    )

-- ---- places

-- a number of that size
of_size : (micros : ℤ) → nat_abs micros ≤ 10 ^ 15 → IsBelow 1000000000000001 micros
of_size (pos n) small = record { above = omega (arith, ints); below = omega (arith, ints) }
of_size (negsuc n) small = record { above = omega (arith, ints); below = omega (arith, ints) }

-- a coordinate that is read isn't far away
pub near_coordinate : (text : List ℕ) (micros : ℤ) → micros_of text ≡ Ok micros
    → IsBelow 1000000000000001 micros
near_coordinate text micros told = of_size micros (micros_within text micros told)

-- so is a node
near_node : (node : Node) (point : Point) → point_of node.x node.y ≡ Ok point
    → IsPointBelow 1000000000000001 point
near_node node point told = at (micros_of node.x) (micros_of node.y) refl refl told
  where
    at : (x y : Result ℤ NumberFault) → micros_of node.x ≡ x → micros_of node.y ≡ y
        → point_from x y ≡ Ok point → IsPointBelow 1000000000000001 point
    at (Err fault) y first second told = cc
    at (Ok x) (Err fault) first second told = cc
    at (Ok x) (Ok y) first second told =
        let same : ◌≡◌ {A = Point} (record { x = x; y = y }) point = cc told in
        subst (IsPointBelow 1000000000000001) same (record {
          x = near_coordinate node.x x first;
          y = near_coordinate node.y y second;
        })

-- and so is each place that lines give
near_given : (earlier lines : List (List ℕ)) (name : List ℕ) (point : Point)
    → placed_at (places_after earlier lines) name ≡ Some point → IsPointBelow 1000000000000001 point
near_given earlier [] name point found = cc
near_given earlier (line ∷ later) name point found =
    at (entry_after earlier line) found (near_given (earlier ++ line ∷ []) later name point)
  where
    rest : List (List ℕ × Point)
    rest = places_after (earlier ++ line ∷ []) later

    hit : (b : Bool) (there : Point) → IsPointBelow 1000000000000001 there
        → cond b (Some there) (placed_at rest name) ≡ Some point
        → (placed_at rest name ≡ Some point → IsPointBelow 1000000000000001 point)
        → IsPointBelow 1000000000000001 point
    hit true there near found later_near =
        let same : there ≡ point = cc found in subst (IsPointBelow 1000000000000001) same near
    hit false there near found later_near = later_near found

    by : (node : Node) (told : Result Point NumberFault) → point_of node.x node.y ≡ told
        → placed_at (option_to_list (option_map (λ p. (node.name, p)) (result_ok told))
        ++ rest) name
        ≡ Some point → (placed_at rest name ≡ Some point → IsPointBelow 1000000000000001 point)
        → IsPointBelow 1000000000000001 point
    by node (Err fault) known found later_near = later_near found
    by node (Ok there) known found later_near =
        hit (bytes_eq name node.name) there (near_node node there known) found later_near

    at : (entry : Option Entry)
        → placed_at (option_to_list (place_by entry) ++ rest) name ≡ Some point
        → (placed_at rest name ≡ Some point → IsPointBelow 1000000000000001 point)
        → IsPointBelow 1000000000000001 point
    at None found later_near = later_near found
    at (Some Blank) found later_near = later_near found
    at (Some Header) found later_near = later_near found
    at (Some (Stands node)) found later_near = by node
        (point_of node.x node.y) refl found later_near

-- and so are all
near_all : (lines names : List (List ℕ)) (points : List Point)
    → map (placed_at (places_after [] lines)) names ≡ map Some points
    → All (IsPointBelow 1000000000000001) points
near_all lines [] [] are = All-nil (IsPointBelow 1000000000000001)
near_all lines [] (point ∷ points) are = cc
near_all lines (name ∷ names) [] are = cc
near_all lines (name ∷ names) (point ∷ points) are =
    let first : placed_at (places_after [] lines) name ≡ Some point = cc are in
    let rest : map (placed_at (places_after [] lines)) names ≡ map Some points = cc are in
    All-cons (IsPointBelow 1000000000000001) point points (near_given [] lines name point first)
    (near_all lines names points rest)

-- ---- a problem

-- a circuit, delays that serve it and an accepted placement are a problem
pub problem_of : (circuit : Circuit) (tech : Tech) (places : Places) (text : List ℕ)
    → ((loop : List ℕ) → IsLoop circuit.signals loop → ⊥) → GivesUsedKinds circuit tech
    → IsTrue (has_host circuit.signals) ↔ (tech.host ≢ [])
    → AcceptsPlacement text circuit tech.source tech.host places → IsProblem circuit tech places
problem_of circuit tech places text acyclic kinds host accepts =
    let gives = accepted_gives text circuit tech.source tech.host places accepts in
    let nodes = register_nodes circuit tech.host in
    let given = placed_at (places_after [] (lines_of text)) in
    let as_many : length nodes ≡ length circuit.registers = length-map circuit.registers _ in
    record {
      acyclic = acyclic;
      kinds = kinds;
      host = host;
      registers = sym (length-map places.registers Some) ∙ ap length (sym gives.registers)
          ∙ length-map nodes given ∙ as_many;
      near = near_all (lines_of text) nodes places.registers gives.registers;
      source_near = near_given [] (lines_of text) tech.source places.source gives.at_source;
    }
