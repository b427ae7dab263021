-- Shows and sinks as they are read from lists.
use Rattle.cert_check.proofs.Vocabulary.{◌≡◌, ◌↔◌, ◌<◌, ◌≤◌, ◌^◌, ℕ, ℤ, pos, ◌+ℤ◌, Bool, IsTrue, List, Some, length, get_or, to_z, of_z, subst, sym, arith, w128, IsSomeAnd, slice_get, ints, to_z-of_z, slice_get-get_or, Sink, IsBelow, span}
use Rattle.std.specs.List.{All}
use Rattle.cts_model.specs.declared.tree.Show.{Show}

-- a small number, as the code keeps it, is small
pub kept_below : (low high : ℕ) (number : ℤ) → low ≤ high → high ≤ 10 ^ 36 → IsBelow low number
    → IsBelow high (to_z w128 (of_z w128 number))
kept_below low high number less few below = search (arith, to_z-of_z, ints)

-- what a test says of an item of a list, it says of what is found there
pub denotes_found : {X : Type 0} (Holds : X → Type 0) (items : List X) (place : ℕ) (default : X)
    → (test : Bool) → place < length items → IsTrue test ↔ Holds (get_or items place default)
    → IsTrue test ↔ IsSomeAnd (slice_get items place) Holds
denotes_found Holds items place default test within denotes = search (arith, slice_get-get_or)

-- and with the span of two sinks
pub denotes_span : (sinks : List Sink) (reach : ℤ) (first second : ℕ) (default : Sink)
    → (test : Bool) → first < length sinks → second < length sinks → IsTrue test ↔ (reach +ℤ reach
    ≡ span (get_or sinks first default) (get_or sinks second default))
    → IsTrue test ↔ IsSomeAnd (slice_get sinks first) (λ one. IsSomeAnd (slice_get sinks second)
    (λ other. reach +ℤ reach ≡ span one other))
denotes_span sinks reach first second default test low also_low denotes =
    denotes_found (λ one. IsSomeAnd (slice_get sinks second)
    (λ other. reach +ℤ reach ≡ span one other)) sinks first default test low
    (denotes_found (λ other. reach +ℤ reach ≡ span (get_or sinks first default) other) sinks second
    default test also_low denotes)

-- what a test says of the show that is found at a place, it says of that place
pub denotes_show : (Holds : Show → Type 0) (shows : List Show) (place other : ℕ) {show : Show}
    (test : Bool) → place ≡ other → slice_get shows place ≡ Some show → IsTrue test ↔ Holds show
    → IsTrue test ↔ IsSomeAnd (slice_get shows other) Holds
denotes_show Holds shows place other test same found denotes =
    subst (λ place. IsTrue test ↔ IsSomeAnd (slice_get shows place) Holds) same
    (subst (λ show. IsTrue test ↔ IsSomeAnd show Holds) (sym found) denotes)

-- a number of a list, as the code keeps it
pub kept_at : (list other : List ℤ) (place : ℕ) → other ≡ list → All (IsBelow (10 ^ 32)) list
    → place < length list
    → to_z w128 (of_z w128 (get_or other place (pos 0))) ≡ get_or list place (pos 0)
kept_at list other place same small within = search (arith, to_z-of_z, ints)
