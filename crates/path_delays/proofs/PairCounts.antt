-- Whether more pairs are joined than a list may have.
use Rattle.path_delays.proofs.Vocabulary.{ℕ, zero, suc, ◌≡◌, ◌<◌, ◌≤◌, ◌+◌, List, ◌∷◌, [], ◌++◌, length, get_or, map, Option, Some, None, refl, arith, pos, false≢true, length_push, length-map, get_or-map, Circuit, Tech, PairDelay, ComesBefore, ListsPairs, JoinsMoreThan, IsJoinedBy, ListsPairsBefore, MeetsLimit, ShowsTooMany, pair_limit}
use Rattle.cts_model.proofs.PairOrder.{earlier_place}
use Rattle.path_delays.specs.declared.fault.PairFault.{PairFault}
use Rattle.path_delays.specs.declared.fault.PairFault.TheVariants.{TooManyPairs, NoMemory}
use Rattle.path_delays.proofs.PairWalk.{pair_next}

-- where a list has the pair of two registers
record IsPlaceOf (pairs : List PairDelay) (key : ℕ × ℕ) : Type 0 where
  place : ℕ
  pair : PairDelay
  within : place < length pairs
  here : get_or pairs place pair ≡ pair
  from_is : pair.from ≡ key.0
  to_is : pair.to ≡ key.1

module _ {circuit : Circuit} {tech : Tech} {pairs : List PairDelay} {limit : ℕ}
    (lists : ListsPairs circuit tech pairs) (more : JoinsMoreThan circuit limit) where
  -- each of the pairs that are joined is listed
  place_at : (k : ℕ) → k < length more.pairs → IsPlaceOf pairs (get_or more.pairs k (0, 0))
  place_at k within =
      let joined = more.joined k (0, 0) within in
      let found =
      lists.all (get_or more.pairs k (0, 0)).0 (get_or more.pairs k (0, 0)).1 joined.0 joined.1 in
      record {
        place = found.0;
        pair = found.1;
        within = found.2;
        here = found.3;
        from_is = found.4.0;
        to_is = found.4.1;
      }

  -- and no earlier than at its own place
  rises : (k : ℕ) (within : k < length more.pairs) → k ≤ (place_at k within).place
  rises zero within = omega arith
  rises (suc k) within =
      let before : k < length more.pairs = omega arith in
      let here = place_at (suc k) within in
      let there = place_at k before in
      let comes : ComesBefore there.pair.from there.pair.to here.pair.from here.pair.to =
      rw (there.from_is, there.to_is, here.from_is, here.to_is)
      (more.ordered k (suc k) (0, 0) (omega arith) within) in
      let earlier = earlier_place pairs lists.ordered here.place there.place here.pair there.pair
      here.within here.here there.within there.here comes in
      omega (arith, rises k before)

  -- so the list is longer than that
  pub not_more : length pairs ≤ limit → ⊥
  not_more few =
      let last = place_at limit more.more in
      omega (arith, rises limit more.more, last.within)

-- the registers of a pair
abbrev key_of : PairDelay → ℕ × ℕ
key_of pair = (pair.from, pair.to)

-- a pair of these registers, for places past the end of a list
abbrev some_pair : ℕ × ℕ → PairDelay
some_pair key = record { from = key.0; to = key.1; least = pos 0; greatest = pos 0 }

-- a list with more pairs than the limit shows so many
list_shows : (circuit : Circuit) (tech : Tech) (from to limit : ℕ) (pairs : List PairDelay)
    → ListsPairsBefore circuit tech from to pairs → limit < length pairs
    → JoinsMoreThan circuit limit
list_shows circuit tech from to limit pairs lists full = record {
  pairs = map key_of pairs;
  ordered = λ i j d before within.
      let inside : j < length pairs = omega (arith, length-map pairs key_of) in
      let low : i < length pairs = omega arith in
      rw (
        get_or-map key_of pairs i (some_pair d) d low,
        get_or-map key_of pairs j (some_pair d) d inside,
      ) (lists.ordered i j (some_pair d) before inside);
  joined = λ k d within.
      let inside : k < length pairs = omega (arith, length-map pairs key_of) in
      let shown = (lists.delays k (some_pair d) inside).least_shown in
      rw (get_or-map key_of pairs k (some_pair d) d inside) (shown.0, shown.1);
  more = omega (arith, length-map pairs key_of);
}

-- a full list and one more joined pair are more than the limit
pub shows_too_many : (circuit : Circuit) (tech : Tech) (from to : ℕ) (pairs : List PairDelay)
    (joined : Option PairDelay) (fault : PairFault) → ListsPairsBefore circuit tech from to pairs
    → IsJoinedBy circuit tech from to joined → MeetsLimit joined pairs fault
    → ShowsTooMany circuit fault
shows_too_many circuit tech from to pairs None TooManyPairs lists joined full =
    absurd (false≢true full.0)
shows_too_many circuit tech from to pairs (Some pair) TooManyPairs lists joined full =
    list_shows circuit tech from (to + 1) pair_limit (pairs ++ pair ∷ [])
    (pair_next circuit tech from to pairs (pairs ++ pair ∷ []) (Some pair) joined refl lists)
    (omega (arith, full.1, length_push pairs pair))
shows_too_many circuit tech from to pairs joined NoMemory lists is_joined full = tt
