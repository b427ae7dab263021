-- What a merge's reach, region and show say of its own sinks alone.
use Rattle.move_session.proofs.Vocabulary.{◌≡◌, ℕ, ◌+◌, List, [], ◌∷◌, length, Option, ap, refl, ◌∙◌, arith, ℤ, zero, Contains, filter_map, cons_option, Contains-append_right, Sink, Merge, Show, ShowsMerge, numbers_below, some_and, HoldsMerge, KeepsEnds, WorkState}
use Rattle.merge_up.specs.Sides.{AreEnds, IsEnd}
use Rattle.merge_up.specs.declared.end.End.{End}
use Rattle.std.specs.List.{slice_get}
use Rattle.cts_model.specs.declared.tree.Show.TheVariants as shows

-- two lists of sinks that agree on these numbers
abbrev pub AgreeOn : List ℕ → (old new : List Sink) → Type 0
AgreeOn numbers old new = (register : ℕ) → Contains numbers register
    → slice_get old register ≡ slice_get new register

-- what is found for items is the same where it is the same for each of them
same_found : {X Y : Type 0} (pick other : X → Option Y) (items : List X)
    → ((item : X) → Contains items item → pick item ≡ other item)
    → filter_map pick items ≡ filter_map other items
same_found pick other [] same = refl
same_found pick other (item ∷ items) same =
    ap (λ found. cons_option found (filter_map pick items))
    (same item (zero, omega arith, refl))
    ∙ ap (cons_option (other item)) (same_found pick other items (λ one within. same one
    (Contains-append_right (item ∷ []) items one within)))

-- a pair of sinks shows the same
same_shown : (old new : List Sink) (numbers : List ℕ) (reach : ℤ) (show : Show)
    → AgreeOn numbers old new → ShowsMerge old numbers reach show
    → ShowsMerge new numbers reach show
same_shown old new numbers reach (shows.Pair first second) agree shown = record {
  ordered = shown.ordered;
  first_below = shown.first_below;
  second_below = shown.second_below;
  value = rw (← agree first shown.first_below, ← agree second shown.second_below) shown.value;
}
same_shown old new numbers reach (shows.Sink register) agree shown = absurd shown
same_shown old new numbers reach shows.Root agree shown = absurd shown

-- for two lists of sinks that agree on those below a merge
module _ (old new : List Sink) (merges : List Merge) (work : WorkState) (place : ℕ)
    (same : length old ≡ length new)
    (agree : AgreeOn (numbers_below (length new) merges (length new + place)) old new) where
  -- the numbers of the sinks below it
  abbrev numbers : List ℕ
  numbers = numbers_below (length new) merges (length new + place)

  -- the sinks are the same
  found : filter_map (slice_get old) numbers ≡ filter_map (slice_get new) numbers
  found = same_found (slice_get old) (slice_get new) numbers agree

  -- so are its reach, region and show
  pub holds_agreeing : HoldsMerge old merges work place → HoldsMerge new merges work place
  holds_agreeing held =
      let below = ap (λ n. filter_map (slice_get old) (numbers_below n merges (n + place))) same
      ∙ found in
      record {
        reach = held.reach;
        region = held.region;
        show = held.show;
        reach_held = rw (← same) held.reach_held;
        region_held = rw (← same) held.region_held;
        show_held = held.show_held;
        is_reach = rw (← below) held.is_reach;
        is_region = rw (← below) held.is_region;
        shows = same_shown old new numbers held.reach held.show agree (rw (← same) held.shows);
      }

  same_end : {far : Sink → ℤ} {end : End} → IsEnd old numbers far end → IsEnd new numbers far end
  same_end {far} {end} is = record {
    among = is.among;
    attained = rw (← agree end.sink is.among) is.attained;
    furthest = rw (← found) is.furthest;
  }

  -- and its furthest sinks
  pub keeps_agreeing : KeepsEnds old merges work place → KeepsEnds new merges work place
  keeps_agreeing kept =
      let (ends, here, are) = some_and (slice_get work.ends place) (AreEnds old numbers)
      (rw same at kept) in
      rw here (record {
        high_u = same_end are.high_u;
        low_u = same_end are.low_u;
        high_v = same_end are.high_v;
        low_v = same_end are.low_v;
      })
