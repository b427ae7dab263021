-- The walk from a gate that waits to one that it reads and that waits too, until a gate comes
-- again.
use Rattle.gate_order.proofs.Vocabulary.{ℕ, ◌≡◌, ◌≢◌, ◌<◌, ◌≤◌, ◌+◌, ◌-◌, Bool, true, false, not, List, [], ◌∷◌, ◌++◌, length, get_or, set, take, drop, reverse, Some, sym, ◌∙◌, ap, subst, arith, All, Contains, ⊎_elim, true≢false, slice_index, reverse-append, length-reverse, get_or-reverse, length-set, get_or-set_same, get_or-set_other, get_or_default, get_or_push, get_or_append_left, length_push, Contains-push, Contains-append_left, all_pairs_push, cases_eq, cases_lt, Signal, Reads, Follows, IsNamedLoop}
use Rattle.std.specs.Prelude.{count_by, slice_get}
use Rattle.gate_order.proofs.Distinct.{AreDistinct, distinct_reverse, distinct_take}
use Rattle.gate_order.proofs.WaitingInputs.{waits_within}
use Rattle.gate_order.proofs.Rings.{cut_ring, named_rotated}

-- the gates gone through, each of which reads the next, up to one that waits: they are those that
-- were seen
pub record IsWalk (signals : List Signal) (waiting : List ℕ) (start : ℕ) (path : List ℕ)
    (seen : List Bool) (gate : ℕ) : Type 0 where
  pub waits : 0 < slice_index waiting gate
  pub chain : Follows signals gate (reverse path) start
  pub once : AreDistinct path
  pub marked : (place : ℕ) → place < length path → get_or seen (get_or path place 0) false ≡ true
  pub passed : (number : ℕ) → get_or seen number false ≡ true → Contains path number
  pub covers : length seen ≡ length waiting

-- how many signals weren't seen
abbrev pub unseen : List Bool → ℕ
unseen seen = count_by not seen

-- what was seen stays so
still_seen : (seen : List Bool) (gate number : ℕ) → gate < length seen
    → get_or seen number false ≡ true → get_or (set seen gate true) number false ≡ true
still_seen seen gate number within here = ⊎_elim
    (λ same. subst (λ n. get_or (set seen gate true) n false ≡ true) (sym same)
    (get_or-set_same seen gate true false within))
    (λ other. get_or-set_other seen gate number true false other ∙ here)
    (cases_eq number gate)

module _ {signals : List Signal} {waiting : List ℕ} {start : ℕ} {path : List ℕ} {seen : List Bool}
    {gate : ℕ} (walk : IsWalk signals waiting start path seen gate) where
  -- the gate is one of the signals
  gate_within : gate < length seen
  gate_within = omega (arith, waits_within waiting gate walk.waits, walk.covers)

  -- the mark that was read at its place
  pub mark_is : (mark was : Bool) → mark ≡ get_or seen gate mark → mark ≡ was
      → get_or seen gate false ≡ was
  mark_is mark was read is = get_or_default seen gate false mark gate_within ∙ sym read ∙ is

  -- a gate that comes again is one of the path's
  pub comes_again : get_or seen gate false ≡ true → Contains (reverse path) gate
  comes_again was =
      let held = walk.passed gate was in
      let back = length path - 1 - held.0 in
      let there : length path - 1 - back ≡ held.0 = omega (arith, held.1) in (
        back,
        omega (arith, length-reverse path, held.1),
        get_or-reverse path back gate (omega (arith, held.1)) ∙ ap (λ n. get_or path n gate) there
            ∙ held.2,
      )

  -- a gate that wasn't seen isn't in the path
  new_to_path : get_or seen gate false ≡ false → (place d : ℕ) → place < length path
      → get_or path place d ≢ gate
  new_to_path new place d within same =
      true≢false (sym (walk.marked place within)
      ∙ ap (λ n. get_or seen n false) (get_or_default path place 0 d within ∙ same) ∙ new)

  -- the walk goes on by a gate that wasn't seen
  pub walk_next : (next : ℕ) → get_or seen gate false ≡ false → Reads signals gate next
      → 0 < slice_index waiting next
      → IsWalk signals waiting start (path ++ gate ∷ []) (set seen gate true) next
  walk_next next new reads waits = record {
    waits = waits;
    chain = rw (reverse-append path (gate ∷ [])) (reads, walk.chain);
    once = all_pairs_push (λ first second. first ≢ second) path gate walk.once (new_to_path new);
    marked = λ place within. ⊎_elim
        (λ before. rw (get_or_append_left path (gate ∷ []) 0 place before)
        (still_seen seen gate (get_or path place 0) gate_within (walk.marked place before)))
        (λ last. rw (get_or_push path gate 0 place (omega (arith, length_push path gate)))
        (get_or-set_same seen gate true false gate_within))
        (cases_lt place (length path));
    passed = λ number here. ⊎_elim
        (λ same. subst (Contains (path ++ gate ∷ [])) (sym same) (Contains-push path gate))
        (λ other. Contains-append_left path (gate ∷ []) number
        (walk.passed number (sym (get_or-set_other seen gate number true false other) ∙ here)))
        (cases_eq number gate);
    covers = length-set seen gate true ∙ walk.covers;
  }

  -- the path back to a gate that comes again, rotated to its lowest number, is a ring as it is
  -- named
  pub named_ring : (place : ℕ) → slice_get (reverse path) place ≡ Some gate
      → (turn : ℕ) (ring : List ℕ) → ring
      ≡ drop turn (take (place + 1) (reverse path)) ++ take turn (take (place + 1) (reverse path))
      → All (λ number. slice_index ring 0 ≤ number) ring → IsNamedLoop signals ring
  named_ring place here turn ring rotated lowest =
      let cut = take (place + 1) (reverse path) in
      let once = distinct_take (place + 1) (reverse path) (distinct_reverse path walk.once) in
      named_rotated signals cut (cut_ring signals (reverse path) start place gate walk.chain here)
      once turn ring rotated lowest
