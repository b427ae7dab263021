-- Gates in an order in which each comes after the gates that it reads form no loop.
use Rattle.gate_order.proofs.Vocabulary.{◌≡◌, ◌≢◌, ◌<◌, ◌≤◌, ℕ, List, [], ◌∷◌, AllPairs, Contains, Some, inl, inr, sym, ◌∙◌, ap, subst, arith, slice_get, cases_order, get_or-take, length-take, slice_get_within, slice_get-get_or, get_or_from_slice_get, Signal, IsGate, Reads, Follows, IsLoop, IsTopologicalOrder}
use Rattle.gate_order.proofs.ReadLemmas.{IsGate-from_Reads}

-- a gate stands at one place only
same_place : (order : List ℕ) (gate first second : ℕ) → AllPairs (λ one other. one ≢ other) order
    → slice_get order first ≡ Some gate → slice_get order second ≡ Some gate → first ≡ second
same_place order gate first second once here there = elim (cases_order first second) [
  | inl same ↦ same
  | inr (inl before) ↦
      absurd (once first second gate before (slice_get_within order second gate there)
      (get_or_from_slice_get order first gate gate here
      ∙ sym (get_or_from_slice_get order second gate gate there)))
  | inr (inr after) ↦
      absurd (once second first gate after (slice_get_within order first gate here)
      (get_or_from_slice_get order second gate gate there
      ∙ sym (get_or_from_slice_get order first gate gate here)))
]

-- what stands in the list has a place there
place_of : (order : List ℕ) (gate : ℕ) → Contains order gate
    → (place : ℕ) × (slice_get order place ≡ Some gate)
place_of order gate (place, within, here) =
    (place, slice_get-get_or order place gate within ∙ ap Some here)

module _ (signals : List Signal) (order : List ℕ) (sorted : IsTopologicalOrder signals order) where
  -- a gate stands before each that reads it
  pub before_reader : (read reader place later : ℕ) → slice_get order place ≡ Some read
      → slice_get order later ≡ Some reader → Reads signals reader read → IsGate signals read
      → place < later
  before_reader read reader place later here there reads is_one =
      let found = sorted.after later reader read there reads is_one in
      let near : found.0 < later = omega (arith, found.1, length-take later order) in
      let stands : slice_get order found.0 ≡ Some read =
      slice_get-get_or order found.0 read (omega (arith, found.1, length-take later order))
      ∙ ap Some (sym (get_or-take later order found.0 read near) ∙ found.2) in
      let same : found.0 ≡ place = same_place order read found.0 place sorted.once stands here in
      omega arith

  -- the last gate of a path stands no earlier than the first
  no_earlier : (first : ℕ) (gates : List ℕ) (last place : ℕ) → slice_get order place ≡ Some first
      → IsGate signals first → Follows signals first gates last
      → (later : ℕ) × (slice_get order later ≡ Some last) × (place ≤ later) × IsGate signals last
  no_earlier first [] last place here is_one same = (
    place,
    subst (λ gate. slice_get order place ≡ Some gate) same here,
    omega arith,
    subst (IsGate signals) same is_one,
  )
  no_earlier first (gate ∷ gates) last place here is_one (reads, rest) =
      let next_is_one = IsGate-from_Reads signals gate first reads in
      let next = place_of order gate (sorted.all gate next_is_one) in
      let before : place < next.0 =
      before_reader first gate place next.0 here next.1 reads is_one in
      let end = no_earlier gate gates last next.0 next.1 next_is_one rest in
      (end.0, end.1, omega (arith, end.2), end.3)

  -- so no gate reads, along a path, one that stands after it
  pub no_loop : (loop : List ℕ) → IsLoop signals loop → ⊥
  no_loop [] ring = ring
  no_loop (first ∷ gates) (last, path, closes) =
      let is_one = IsGate-from_Reads signals first last closes in
      let start = place_of order first (sorted.all first is_one) in
      let end = no_earlier first gates last start.0 start.1 is_one path in
      let before : end.0 < start.0 =
      before_reader last first end.0 start.0 end.1 start.1 closes end.3 in
      absurd (omega (arith, end.2))
