-- Three sinks of which the third is set closer to the others: what is held of their merges stays.
use Rattle.tree_tests.proofs.Vocabulary.{◌≡◌, ℕ, zero, suc, ◌+◌, ◌^◌, ◌<◌, List, [], ◌∷◌, ◌++◌, Contains, length, Some, IsSomeAnd, slice_get, filter_map, ℤ, pos, neg_ℤ, ◌+ℤ◌, ◌≤ℤ◌, ◌<ℤ◌, refl, sym, ap, subst, ◌∙◌, arith, All-cons, All-contains, All-nil, Sink, Merge, Show, IsDoubleReach, span, ShowsMerge, AreTreeSinks, IsTreeSink, IsTopology, numbers_below, numbers_below-sink, Extremes, IsExtremes, IsRegion, u_above, u_below, v_above, v_below, HoldsMerge, HoldsSink, IsMerged, IsSinkSet, IsUnsettled, WorkState, IsFit, IsBegun, begun_next, merges_set}
use Rattle.std.proofs.lemmas.Int.{ints, clamps}
use Rattle.std.proofs.lemmas.Option.{slice_get_within}
use Rattle.cts_model.specs.declared.tree.Show.TheVariants as shows
use Rattle.cts_model.specs.Vocabulary.{IsBelow, IsMultipleOf}
use Rattle.tilted_rect.proofs.RegionLemmas.{region_from_sides, sides_from_region}
use Rattle.tilted_rect.proofs.SpanLemmas.{reach_is_spread}
use Rattle.tree_tests.proofs.HeldForOthers.{JoinsAt, held_of_two, joined_numbers}

-- a sink with the offset 0
abbrev pub still : (u v : ℤ) → Sink
still u v = record { at = record { u = u; v = v }; offset = pos 0 }

abbrev pub one : Sink
one = still (pos 0) (pos 16)

abbrev pub two : Sink
two = still (pos 80) (neg_ℤ (pos 16))

abbrev pub far : Sink
far = still (pos 40) (pos 16)

abbrev pub near : Sink
near = still (pos 40) (pos 8)

abbrev pub with : Sink → List Sink
with third = one ∷ two ∷ third ∷ []

-- three sinks that are these
pub these : (first second third last : Sink) → first ≡ one → second ≡ two → third ≡ last
    → first ∷ second ∷ third ∷ [] ≡ with last
these first second third last is_one is_two is_last =
    ap (λ sink. sink ∷ second ∷ third ∷ []) is_one
    ∙ ap (λ sink. one ∷ sink ∷ third ∷ []) is_two ∙ ap with is_last

-- the coordinates of a tree's sink
still_stands : (u v : ℤ) → IsBelow (10 ^ 31) u → IsBelow (10 ^ 31) v → IsMultipleOf 8 u
    → IsMultipleOf 8 v → IsTreeSink (still u v)
still_stands u v below_u below_v multiple_u multiple_v = record {
  at_below = record { u = below_u; v = below_v };
  at_multiple = record { u = multiple_u; v = multiple_v };
  offset_below = record { above = omega (arith, ints); below = omega (arith, ints) };
  offset_multiple = refl;
}

small : (u : ℤ) → neg_ℤ (pos 100) <ℤ u → u <ℤ pos 100 → IsBelow (10 ^ 31) u
small u above below = record {
  above = omega (arith, ints, above);
  below = omega (arith, ints, below);
}

tree_sinks_with : (third : Sink) → IsTreeSink third → AreTreeSinks (with third)
tree_sinks_with third valid = record {
  some = omega arith;
  few = omega arith;
  each = All-cons IsTreeSink one (two ∷ third ∷ [])
      (still_stands (pos 0) (pos 16) (small (pos 0) (omega (arith, ints)) (omega (arith, ints)))
      (small (pos 16) (omega (arith, ints)) (omega (arith, ints))) refl refl)
      (All-cons IsTreeSink two (third ∷ [])
      (still_stands (pos 80) (neg_ℤ (pos 16))
      (small (pos 80) (omega (arith, ints)) (omega (arith, ints)))
      (small (neg_ℤ (pos 16)) (omega (arith, ints)) (omega (arith, ints))) refl refl)
      (All-cons IsTreeSink third [] valid (All-nil IsTreeSink)));
}

pub tree_sinks_far : AreTreeSinks (with far)
tree_sinks_far = tree_sinks_with far (still_stands (pos 40) (pos 16)
    (small (pos 40) (omega (arith, ints)) (omega (arith, ints)))
    (small (pos 16) (omega (arith, ints)) (omega (arith, ints))) refl refl)

pub tree_sinks_near : AreTreeSinks (with near)
tree_sinks_near = tree_sinks_with near (still_stands (pos 40) (pos 8)
    (small (pos 40) (omega (arith, ints)) (omega (arith, ints)))
    (small (pos 8) (omega (arith, ints)) (omega (arith, ints))) refl refl)

-- the third sink is none of the extremes
abbrev all : Extremes
all = record {
  greatest_u = pos 80;
  least_u = pos 0;
  greatest_v = pos 16;
  least_v = neg_ℤ (pos 16);
}

-- each of three
each : (third : Sink) (Holds : Sink → Type 0) → Holds third → Holds one → Holds two
    → (sink : Sink) → Contains (third ∷ one ∷ two ∷ []) sink → Holds sink
each third Holds at_third at_one at_two sink among =
    All-contains Holds (third ∷ one ∷ two ∷ []) sink
    (All-cons Holds third (one ∷ two ∷ []) at_third
    (All-cons Holds one (two ∷ []) at_one (All-cons Holds two [] at_two (All-nil Holds)))) among

extremes_with : (third : Sink) → u_above third ≤ℤ pos 80 → pos 0 ≤ℤ u_below third
    → v_above third ≤ℤ pos 16 → neg_ℤ (pos 16) ≤ℤ v_below third
    → IsExtremes (third ∷ one ∷ two ∷ []) all
extremes_with third high_u low_u high_v low_v = record {
  greatest_u = record {
    most = each third (λ sink. u_above sink ≤ℤ pos 80) high_u (omega (arith, ints))
        (omega (arith, ints));
    sink = two;
    among = (2, omega arith, refl);
    attained = refl;
  };
  least_u = record {
    least = each third (λ sink. pos 0 ≤ℤ u_below sink) low_u (omega (arith, ints))
        (omega (arith, ints));
    sink = one;
    among = (1, omega arith, refl);
    attained = refl;
  };
  greatest_v = record {
    most = each third (λ sink. v_above sink ≤ℤ pos 16) high_v (omega (arith, ints))
        (omega (arith, ints));
    sink = one;
    among = (1, omega arith, refl);
    attained = refl;
  };
  least_v = record {
    least = each third (λ sink. neg_ℤ (pos 16) ≤ℤ v_below sink) low_v (omega (arith, ints))
        (omega (arith, ints));
    sink = two;
    among = (2, omega arith, refl);
    attained = refl;
  };
}

with_far : IsExtremes (far ∷ one ∷ two ∷ []) all
with_far = extremes_with far (omega (arith, ints)) (omega (arith, ints)) (omega (arith, ints))
    (omega (arith, ints))

with_near : IsExtremes (near ∷ one ∷ two ∷ []) all
with_near = extremes_with near (omega (arith, ints)) (omega (arith, ints)) (omega (arith, ints))
    (omega (arith, ints))

-- twice the reach is the span of two of the sinks
abbrev Spans : (third : Sink) → ℤ → (first second : ℕ) → Type 0
Spans third twice first second = IsSomeAnd (slice_get (with third) first)
    (λ one. IsSomeAnd (slice_get (with third) second) (λ other. twice ≡ span one other))

-- each of the three numbers
each_number : (Holds : ℕ → Type 0) → Holds 2 → Holds 0 → Holds 1
    → (number : ℕ) → Contains (2 ∷ 0 ∷ 1 ∷ []) number → Holds number
each_number Holds at_two at_none at_one number among =
    All-contains Holds (2 ∷ 0 ∷ 1 ∷ []) number (All-cons Holds 2 (0 ∷ 1 ∷ []) at_two
    (All-cons Holds 0 (1 ∷ []) at_none (All-cons Holds 1 [] at_one (All-nil Holds)))) among

-- no pair with the third sink is as far apart
spans_still : (twice : ℤ) → twice ≡ pos 80 → (first second : ℕ)
    → Contains (2 ∷ 0 ∷ 1 ∷ []) first → Contains (2 ∷ 0 ∷ 1 ∷ []) second
    → Spans far twice first second → Spans near twice first second
spans_still twice is first second first_in second_in =
    each_number (λ first. Spans far twice first second → Spans near twice first second)
    (each_number (λ second. Spans far twice 2 second → Spans near twice 2 second)
    (λ value. absurd (omega (arith, ints, clamps, is, value)))
    (λ value. absurd (omega (arith, ints, clamps, is, value)))
    (λ value. absurd (omega (arith, ints, clamps, is, value))) second second_in)
    (each_number (λ second. Spans far twice 0 second → Spans near twice 0 second)
    (λ value. absurd (omega (arith, ints, clamps, is, value)))
    (λ value. value) (λ value. value) second second_in)
    (each_number (λ second. Spans far twice 1 second → Spans near twice 1 second)
    (λ value. absurd (omega (arith, ints, clamps, is, value)))
    (λ value. value) (λ value. value) second second_in)
    first first_in

-- so what shows the reach shows it still
shows_still : (reach : ℤ) → reach +ℤ reach ≡ pos 80 → (show : Show)
    → ShowsMerge (with far) (2 ∷ 0 ∷ 1 ∷ []) reach show
    → ShowsMerge (with near) (2 ∷ 0 ∷ 1 ∷ []) reach show
shows_still reach is (shows.Pair first second) pair = record {
  ordered = pair.ordered;
  first_below = pair.first_below;
  second_below = pair.second_below;
  value = spans_still (reach +ℤ reach) is first second pair.first_below pair.second_below
      pair.value;
}
shows_still reach is (shows.Sink register) none = none
shows_still reach is shows.Root none = none

-- the merge of all three is held for the closer one
held_of_three : (merges : List Merge) (work : WorkState) → IsTopology 3 merges
    → JoinsAt merges 0 0 1 → JoinsAt merges 1 2 3
    → HoldsMerge (with far) merges work 1 → HoldsMerge (with near) merges work 1
held_of_three merges work topology lower upper held =
    let numbers : numbers_below 3 merges 4 ≡ 2 ∷ 0 ∷ 1 ∷ [] =
    joined_numbers 3 merges 1 2 3 topology upper
    ∙ ap (λ list. numbers_below 3 merges 2 ++ list) (joined_numbers 3 merges 0 0 1 topology lower)
    ∙ ap (λ list. list ++ (numbers_below 3 merges 0 ++ numbers_below 3 merges 1))
    (numbers_below-sink 3 merges 2 (omega arith))
    ∙ ap (λ list. 2 ∷ (list ++ numbers_below 3 merges 1))
    (numbers_below-sink 3 merges 0 (omega arith))
    ∙ ap (λ list. 2 ∷ 0 ∷ list) (numbers_below-sink 3 merges 1 (omega arith)) in
    let reach = held.reach in
    let is_reach = subst (λ list. IsDoubleReach (filter_map (slice_get (with far)) list)
    (reach +ℤ reach)) numbers held.is_reach in
    let is_region = subst (λ list. IsRegion held.region (filter_map (slice_get (with far)) list)
    reach) numbers held.is_region in
    let shown = subst (λ list. ShowsMerge (with far) list reach held.show) numbers held.shows in
    let twice = (reach_is_spread (far ∷ one ∷ two ∷ []) all (reach +ℤ reach) with_far).0
    is_reach in
    record {
      reach = reach;
      region = held.region;
      show = held.show;
      reach_held = held.reach_held;
      region_held = held.region_held;
      show_held = held.show_held;
      is_reach = subst (λ list. IsDoubleReach (filter_map (slice_get (with near)) list)
          (reach +ℤ reach)) (sym numbers)
          ((reach_is_spread (near ∷ one ∷ two ∷ []) all (reach +ℤ reach) with_near).1 twice);
      is_region = subst (λ list. IsRegion held.region
          (filter_map (slice_get (with near)) list) reach) (sym numbers)
          (region_from_sides (near ∷ one ∷ two ∷ []) all held.region reach with_near
          (sides_from_region (far ∷ one ∷ two ∷ []) all held.region reach with_far is_region));
      shows = subst (λ list. ShowsMerge (with near) list reach held.show) (sym numbers)
          (shows_still reach twice held.show shown);
    }

-- so all that was merged is, once the third sink is set
pub merged_once_set : (merges : List Merge) (work new : WorkState) → IsTopology 3 merges
    → JoinsAt merges 0 0 1 → JoinsAt merges 1 2 3 → IsFit work → IsUnsettled work
    → IsMerged (with far) merges work → IsSinkSet 2 near work new → IsMerged (with near) merges new
merged_once_set merges work new topology lower upper fit unsettled merged set = record {
  count = ap (λ work. work.sinks) set.rest ∙ merged.count;
  of_sinks = λ register sink here. begun.held register sink
      (slice_get_within (with near) register sink here) here;
  of_merges = of_merges;
}
  where
    held : (register : ℕ) (sink : Sink) → register < 2 → slice_get (with near) register ≡ Some sink
        → HoldsSink work register sink
    held zero sink low here = merged.of_sinks 0 sink here
    held (suc zero) sink low here = merged.of_sinks 1 sink here
    held (suc (suc register)) sink low here = absurd (omega (arith, low))

    begun : IsBegun (with near) 3 work new
    begun = begun_next (with near) 2 near work work new refl (record {
      fit = fit;
      room = refl;
      count = merged.count;
      renewals = refl;
      held = held;
      settled = λ some. unsettled;
    }) set

    of_merges : (place : ℕ) → place < length merges → HoldsMerge (with near) merges new place
    of_merges zero within = merges_set set (with near) merges 0 (omega arith)
        (held_of_two (with far) (with near) merges work 0 0 1 topology refl (omega arith)
        (omega arith) lower refl refl (merged.of_merges 0 within))
    of_merges (suc zero) within = merges_set set (with near) merges 1 (omega arith)
        (held_of_three merges work topology lower upper (merged.of_merges 1 within))
    of_merges (suc (suc place)) within = absurd (omega (arith, within, topology.all))
