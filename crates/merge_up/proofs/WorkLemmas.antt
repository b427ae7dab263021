-- What a room holds after a node is renewed.
use Rattle.merge_up.proofs.Vocabulary.{◌≡◌, ◌≢◌, inl, inr, ℕ, zero, suc, ◌+◌, ◌-◌, ◌^◌, ◌<◌, ◌≤◌, min, Bool, false, replicate, take, IsFalse, List, [], ◌∷◌, length, set, Option, Some, unwrap_or, IsSomeAnd, slice_get, slice_set, filter_map, ℤ, ◌+ℤ◌, refl, sym, ap, subst, ◌∙◌, arith, rules, cases_eq, length-set, get_or-set_same, length-take-le, take-replicate, All-replicate, take-set-lt, slice_get-get_or, slice_get_within, Sink, Merge, ShowsMerge, numbers_below, HasExtremeSides, spread, Rect, region_from_sides, spread_is_reach, HoldsMerge, HoldsSink, HoldsSinks, KeepsEnds, IsPointOf, IsRenewed, IsSinkSet, IsUnsettled, renewed_as, AreEnds, extremes_of, HasEntries, state_of, WorkState, IsFit, Ends}
use Rattle.cts_model.specs.declared.tree.Show.{Show}
use Rattle.merge_up.specs.declared.work.Work.TheInside.{Inside}
use Rattle.merge_up.proofs.EndLemmas.{ends_are_extremes}

-- ---- lists

-- what is set at a place is held there
pub set_held : {X : Type 0} (items : List X) (place : ℕ) (item : X) → place < length items
    → slice_get (slice_set items place item) place ≡ Some item
set_held items place item within =
    slice_get-get_or (set items place item) place item (omega
    (arith, within, length-set items place item))
    ∙ ap Some (get_or-set_same items place item item within)

-- what is set at a place leaves the other places as they were
pub set_kept : {X : Type 0} (items : List X) (place other : ℕ) (item : X) → other ≢ place
    → slice_get (slice_set items place item) other ≡ slice_get items other
set_kept [] place other item apart = refl
set_kept (first ∷ items) zero zero item apart = absurd (apart refl)
set_kept (first ∷ items) zero (suc other) item apart = refl
set_kept (first ∷ items) (suc place) zero item apart = refl
set_kept (first ∷ items) (suc place) (suc other) item apart =
    set_kept items place other item (λ same. apart (ap suc same))

-- of lists of which the first entries count, what is written among them is written into those
pub take_set : {X : Type 0} {all : List X} {place : ℕ} (count : ℕ) (items : List X) (item : X)
    → place < count → all ≡ slice_set items place item
    → take count all ≡ slice_set (take count items) place item
take_set {X} {all} {place} count items item low is =
    ap (take count) is ∙ take-set-lt count items place item low

-- once nothing is settled, nothing of what counts is
pub take_unsettled : {all : List Bool} (count : ℕ) (nodes : List Bool) → count ≤ length nodes
    → all ≡ replicate (length nodes) false
    → take count all ≡ replicate (length (take count nodes)) false
take_unsettled {all} count nodes fewer is =
    ap (take count) is ∙ take-replicate count (length nodes) false fewer
    ∙ ap (λ n. replicate n false) (sym (length-take-le count nodes fewer))

-- the state of such lists is fit
pub fit_state : (work : Inside) → HasEntries work → IsFit (state_of work)
fit_state work has = search (rules, length-take-le, has)

-- ---- what is held of a node

-- the reach and the region that a work has of a node
abbrev pub node_of : WorkState → ℕ → Option ℤ × Option Rect
node_of work node = (slice_get work.tree.reach node, slice_get work.regions node)

-- a sink is held where these are as they were
pub sink_along : {work new : WorkState} {register : ℕ} {sink : Sink}
    → node_of new register ≡ node_of work register → HoldsSink work register sink
    → HoldsSink new register sink
sink_along {work} {new} {register} {sink} same held = record {
  reach = ap (λ found. found.0) same ∙ held.reach;
  region = subst (λ (found : Option ℤ × Option Rect). IsSomeAnd found.1
      (λ region. IsPointOf region sink)) (sym same) held.region;
}

-- and a merge, with its show
pub merge_along : {sinks : List Sink} {merges : List Merge} {work new : WorkState} {place : ℕ}
    → node_of new (length sinks + place) ≡ node_of work (length sinks + place)
    → slice_get new.shows place ≡ slice_get work.shows place
    → HoldsMerge sinks merges work place → HoldsMerge sinks merges new place
merge_along {sinks} {merges} {work} {new} {place} same shows held = record {
  reach = held.reach;
  region = held.region;
  show = held.show;
  reach_held = ap (λ found. found.0) same ∙ held.reach_held;
  region_held = ap (λ found. found.1) same ∙ held.region_held;
  show_held = shows ∙ held.show_held;
  is_reach = held.is_reach;
  is_region = held.is_region;
  shows = held.shows;
}

-- ---- a sink is set

module _ {register : ℕ} {sink : Sink} {work new : WorkState}
    (is : IsSinkSet register sink work new) where
  -- of other nodes the work has what it had
  set_other : (other : ℕ) → other ≢ register → node_of new other ≡ node_of work other
  set_other other apart = ap (λ work. node_of work other) is.rest ∙ (λ i. (
    set_kept work.tree.reach register other sink.offset apart i,
    set_kept work.regions register other is.region apart i,
  ))

  -- each sink is held that is this one or was held
  pub sinks_set : (sinks : List Sink) → slice_get sinks register ≡ Some sink → IsFit work
      → register < work.sinks → (other : ℕ) (one : Sink) → slice_get sinks other ≡ Some one
      → (other ≢ register → HoldsSink work other one) → HoldsSink new other one
  sinks_set sinks here fit within other one there held = elim (cases_eq other register) [
    | inl same ↦
        let one_is : sink ≡ one = ap (λ found. unwrap_or found sink)
        (sym here ∙ ap (slice_get sinks) (sym same) ∙ there) in
        rw (same, ← one_is) (record {
          reach = ap (λ work. slice_get work.tree.reach register) is.rest
              ∙ set_held work.tree.reach register sink.offset (omega (arith, within, fit));
          region = subst (λ found. IsSomeAnd found (λ region. IsPointOf region sink))
              (sym (ap (λ work. slice_get work.regions register) is.rest
              ∙ set_held work.regions register is.region (omega (arith, within, fit)))) is.point;
        })
    | inr apart ↦ sink_along (set_other other apart) (held apart)
  ]

  -- and merges are held as before
  pub merges_set : (sinks : List Sink) (merges : List Merge) (place : ℕ) → register < length sinks
      → HoldsMerge sinks merges work place → HoldsMerge sinks merges new place
  merges_set sinks merges place within =
      merge_along (set_other (length sinks + place) (λ same. omega (arith, within, same)))
      (ap (λ work. slice_get work.shows place) is.rest)

-- the sinks before a register are held in the same room
pub record IsBegun (sinks : List Sink) (register : ℕ) (old work : WorkState) : Type 0 where
  pub fit : IsFit work
  pub room : work.room ≡ old.room
  pub count : work.sinks ≡ length sinks
  pub renewals : work.renewals ≡ old.renewals
  pub held : (other : ℕ) (sink : Sink) → other < register → slice_get sinks other ≡ Some sink
      → HoldsSink work other sink
  pub settled : 0 < register → IsUnsettled work

-- once the next is set
pub begun_next : (sinks : List Sink) (register : ℕ) (sink : Sink) (old work new : WorkState)
    → slice_get sinks register ≡ Some sink → IsBegun sinks register old work
    → IsSinkSet register sink work new → IsBegun sinks (register + 1) old new
begun_next sinks register sink old work new here begun is = record {
  fit = is.fit;
  room = ap (λ work. work.room) is.rest ∙ begun.room;
  count = ap (λ work. work.sinks) is.rest ∙ begun.count;
  renewals = ap (λ work. work.renewals) is.rest ∙ begun.renewals;
  held = λ other one before there. sinks_set is sinks here begun.fit
      (omega (arith, begun.count, slice_get_within sinks register sink here)) other one there
      (λ apart. begun.held other one (omega (arith, before, apart)) there);
  settled = λ some. subst IsUnsettled (sym is.rest) (All-replicate IsFalse (length work.settled)
      false refl);
}

-- ---- a merge is renewed

-- by its furthest sinks and what they say
pub renewed_by : (sinks : List Sink) (merges : List Merge) (place : ℕ) (old new : WorkState)
    (ends : Ends) (reach : ℤ) (region : Rect) (show : Show) → IsFit new
    → IsFit old → old.sinks ≡ length sinks → place + 1 < old.sinks
    → new ≡ renewed_as (length sinks) place reach region ends show old
    → AreEnds sinks (numbers_below (length sinks) merges (length sinks + place)) ends
    → reach +ℤ reach ≡ spread (extremes_of ends) → HasExtremeSides region (extremes_of ends) reach
    → ShowsMerge sinks (numbers_below (length sinks) merges (length sinks + place)) reach show
    → IsRenewed sinks merges place old new
renewed_by sinks merges place old new ends reach region show fit was count low is are twice sides
    shows =
    let node = length sinks + place in
    let numbers = numbers_below (length sinks) merges node in
    let set = filter_map (slice_get sinks) numbers in
    let extremes = ends_are_extremes sinks numbers ends are in
    record {
      fit = fit;
      held = record {
        reach = reach;
        region = region;
        show = show;
        reach_held = ap (λ work. slice_get work.tree.reach node) is
            ∙ set_held old.tree.reach node reach (omega (arith, low, count, was));
        region_held = ap (λ work. slice_get work.regions node) is
            ∙ set_held old.regions node region (omega (arith, low, count, was));
        show_held = ap (λ work. slice_get work.shows place) is
            ∙ set_held old.shows place show (omega (arith, low, was));
        is_reach = rw twice (spread_is_reach set (extremes_of ends) extremes);
        is_region = region_from_sides set (extremes_of ends) region reach extremes sides;
        shows = shows;
      };
      ends = ends;
      kept = subst (λ found. IsSomeAnd found (AreEnds sinks numbers))
          (sym (ap (λ work. slice_get work.ends place) is
          ∙ set_held old.ends place ends (omega (arith, low, was)))) are;
      rest = is;
    }

module _ {sinks : List Sink} {merges : List Merge} {place : ℕ} {work new : WorkState}
    (is : IsRenewed sinks merges place work new) where
  -- of other nodes the work has what it had
  renewed_other : (other : ℕ) → other ≢ length sinks + place
      → node_of new other ≡ node_of work other
  renewed_other other apart = ap (λ work. node_of work other) is.rest ∙ (λ i. (
    set_kept work.tree.reach (length sinks + place) other is.held.reach apart i,
    set_kept work.regions (length sinks + place) other is.held.region apart i,
  ))

  -- so sinks are held as before
  pub sinks_renewed : HoldsSinks sinks work → HoldsSinks sinks new
  sinks_renewed held register sink here = sink_along (renewed_other register (λ same. absurd
      (omega (arith, same, slice_get_within sinks register sink here)))) (held register sink here)

  -- and each merge is held that is this one or was held
  pub merges_renewed : (lower : ℕ) → (lower ≢ place → HoldsMerge sinks merges work lower)
      → HoldsMerge sinks merges new lower
  merges_renewed lower held = elim (cases_eq lower place) [
    | inl same ↦ subst (HoldsMerge sinks merges new) (sym same) is.held
    | inr apart ↦ merge_along (renewed_other (length sinks + lower)
        (λ same. apart (omega (arith, same))))
        (ap (λ work. slice_get work.shows lower) is.rest
        ∙ set_kept work.shows place lower is.held.show apart) (held apart)
  ]

  -- with its furthest sinks
  pub ends_renewed : (lower : ℕ) → (lower ≢ place → KeepsEnds sinks merges work lower)
      → KeepsEnds sinks merges new lower
  ends_renewed lower kept = elim (cases_eq lower place) [
    | inl same ↦ subst (KeepsEnds sinks merges new) (sym same) is.kept
    | inr apart ↦ subst (λ found. IsSomeAnd found
        (AreEnds sinks (numbers_below (length sinks) merges (length sinks + lower))))
        (sym (ap (λ work. slice_get work.ends lower) is.rest
        ∙ set_kept work.ends place lower is.ends apart)) (kept apart)
  ]

-- ---- the merges

-- all sinks and the merges before a place are held
pub record IsMergedBefore (sinks : List Sink) (merges : List Merge) (place : ℕ)
    (old work : WorkState) : Type 0 where
  pub room : work.room ≡ old.room
  pub count : work.sinks ≡ length sinks
  pub renewals : work.renewals ≡ min (old.renewals + place) (2 ^ 64 - 1)
  pub of_sinks : HoldsSinks sinks work
  pub of_merges : (lower : ℕ) → lower < place → HoldsMerge sinks merges work lower
  pub kept : (lower : ℕ) → lower < place → KeepsEnds sinks merges work lower
  pub settled : IsUnsettled work

-- once the next is made
pub merged_next : (sinks : List Sink) (merges : List Merge) (place : ℕ) (old work new : WorkState)
    → IsMergedBefore sinks merges place old work → IsRenewed sinks merges place work new
    → IsMergedBefore sinks merges (place + 1) old new
merged_next sinks merges place old work new merged is = record {
  room = ap (λ work. work.room) is.rest ∙ merged.room;
  count = ap (λ work. work.sinks) is.rest ∙ merged.count;
  renewals = ap (λ work. work.renewals) is.rest
      ∙ counted_once old.renewals work.renewals place (2 ^ 64 - 1) merged.renewals;
  of_sinks = sinks_renewed is merged.of_sinks;
  of_merges = λ lower before. merges_renewed is lower
      (λ apart. merged.of_merges lower (omega (arith, before, apart)));
  kept = λ lower before. ends_renewed is lower
      (λ apart. merged.kept lower (omega (arith, before, apart)));
  settled = subst IsUnsettled (sym is.rest) (All-replicate IsFalse (length work.settled) false
      refl);
}
  where
    counted_once : (before now place most : ℕ) → now ≡ min (before + place) most
        → min (now + 1) most ≡ min (before + (place + 1)) most
    counted_once before now place most is = omega (arith, is)
