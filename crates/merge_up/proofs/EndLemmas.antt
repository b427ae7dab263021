-- The furthest sinks of a set to the four sides, and what they say of its reach and its shows.
use Rattle.merge_up.proofs.Vocabulary.{◌≡◌, ℕ, inl, inr, List, [], ◌∷◌, ◌++◌, Contains, Some, slice_get, filter_map, ℤ, ◌+ℤ◌, ◌-ℤ◌, neg_ℤ, ◌≤ℤ◌, refl, ◌*◌, ◌^◌, sym, subst, ◌∙◌, arith, ints, clamps, to_z-of_z, Contains-append_left, Contains-append_right, filter_map-append, int_max, w128, kept, difference_read, Sink, cases_lt, ShowsMerge, sinks_of_u_show, sinks_of_v_show, span_is_symmetric, spread_is_reach, found_among, some_and, Extremes, IsExtremes, IsGreatest, IsLeastOf, HasExtremeSides, spread, u_below, v_below, Rect, End, Ends, IsEnd, AreEnds, extremes_of, pair_of, u_back, v_back}
use Rattle.std.proofs.Math.Nat.{max-eq_left, max-eq_right, min-eq_left, min-eq_right}
use Rattle.tilted_rect.specs.Corners.{IsSide}
use Rattle.std.specs.Prelude.{nat_abs}
use Rattle.cts_model.specs.Vocabulary.{IsBelow, IsMultipleOf, span, IsDoubleReach}
use Rattle.tilted_rect.proofs.ExtremeLemmas.{append_is_union, greatest_one, greatest_union}

-- ---- one side

-- a sink alone is its furthest sink
pub end_alone : {sinks : List Sink} {register : ℕ} {sink : Sink} {far : Sink → ℤ} {end : End}
    → slice_get sinks register ≡ Some sink → end.sink ≡ register → far sink ≡ end.far
    → IsEnd sinks (register ∷ []) far end
end_alone {sinks} {register} {sink} {far} {end} here at is = record {
  among = (0, omega arith, sym at);
  attained = rw (at, here) is;
  furthest = rw here (subst (λ number. IsGreatest far (sink ∷ []) number) is
      (greatest_one far sink));
}

-- of two sets together the greater of how far their ends are
furthest_append : {sinks : List Sink} {first second : List ℕ} {far : Sink → ℤ} {one other : End}
    (greater : ℤ) → int_max one.far other.far ≡ greater → IsEnd sinks first far one
    → IsEnd sinks second far other
    → IsGreatest far (filter_map (slice_get sinks) (first ++ second)) greater
furthest_append {sinks} {first} {second} {far} {one} {other} greater is held others =
    let below = filter_map (slice_get sinks) first in
    let also = filter_map (slice_get sinks) second in
    rw (filter_map-append (slice_get sinks) first second, ← is)
    (greatest_union far below also (below ++ also) one.far other.far (append_is_union below also)
    held.furthest others.furthest)

-- the end of the first set is that of both where it is no less far
pub end_first : {sinks : List Sink} {first second : List ℕ} {far : Sink → ℤ} {one other : End}
    → other.far ≤ℤ one.far → IsEnd sinks first far one → IsEnd sinks second far other
    → IsEnd sinks (first ++ second) far one
end_first {sinks} {first} {second} {far} {one} {other} less held others = record {
  among = Contains-append_left first second one.sink held.among;
  attained = held.attained;
  furthest = furthest_append one.far (omega (arith, ints, clamps, less)) held others;
}

-- and so for the second
pub end_second : {sinks : List Sink} {first second : List ℕ} {far : Sink → ℤ} {one other : End}
    → one.far ≤ℤ other.far → IsEnd sinks first far one → IsEnd sinks second far other
    → IsEnd sinks (first ++ second) far other
end_second {sinks} {first} {second} {far} {one} {other} less held others = record {
  among = Contains-append_right first second other.sink others.among;
  attained = others.attained;
  furthest = furthest_append other.far (omega (arith, ints, clamps, less)) held others;
}

-- ---- the four sides

least_of_back : (sinks : List Sink) (far under : Sink → ℤ) (number : ℤ)
    → ((sink : Sink) → far sink ≡ neg_ℤ (under sink))
    → IsGreatest far sinks number → IsLeastOf under sinks (neg_ℤ number)
least_of_back sinks far under number back is = record {
  least = λ sink among. omega (arith, ints, back sink, is.most sink among);
  sink = is.sink;
  among = is.among;
  attained = omega (arith, ints, back is.sink, is.attained);
}

-- the ends of a set are its extremes
pub ends_are_extremes : (sinks : List Sink) (numbers : List ℕ) (ends : Ends)
    → AreEnds sinks numbers ends
    → IsExtremes (filter_map (slice_get sinks) numbers) (extremes_of ends)
ends_are_extremes sinks numbers ends are = record {
  greatest_u = are.high_u.furthest;
  least_u = least_of_back (filter_map (slice_get sinks) numbers) u_back u_below ends.low_u.far
      (λ sink. omega (arith, ints)) are.low_u.furthest;
  greatest_v = are.high_v.furthest;
  least_v = least_of_back (filter_map (slice_get sinks) numbers) v_back v_below ends.low_v.far
      (λ sink. omega (arith, ints)) are.low_v.furthest;
}

-- ---- shows

-- two ends whose sum is twice the reach show it
pair_shows : (sinks : List Sink) (numbers : List ℕ) (reach : ℤ) (high low : ℕ) (one other : Sink)
    → Contains numbers high → Contains numbers low
    → slice_get sinks high ≡ Some one → slice_get sinks low ≡ Some other
    → reach +ℤ reach ≡ span one other → ShowsMerge sinks numbers reach (pair_of high low)
pair_shows sinks numbers reach high low one other high_in low_in here there is = elim
    (cases_lt low high) [
      | inl less ↦ rw (
        min-eq_right {n = low} {m = high} (omega (arith, less)),
        max-eq_left {n = high} {m = low} (omega (arith, less)),
      ) (record {
        ordered = omega (arith, less);
        first_below = low_in;
        second_below = high_in;
        value = rw (there, here) (is ∙ span_is_symmetric one other);
      })
      | inr less ↦ rw (min-eq_left less, max-eq_right less) (record {
        ordered = less;
        first_below = high_in;
        second_below = low_in;
        value = rw (here, there) is;
      })
    ]

-- two ends show what the sinks there span
ends_show : {sinks : List Sink} {numbers : List ℕ} {far back : Sink → ℤ} {high low : End}
    (reach : ℤ) → IsEnd sinks numbers far high → IsEnd sinks numbers back low
    → ((one other : Sink) → Contains (filter_map (slice_get sinks) numbers) one
    → Contains (filter_map (slice_get sinks) numbers) other → far one ≡ high.far
    → back other ≡ low.far → reach +ℤ reach ≡ span one other)
    → ShowsMerge sinks numbers reach (pair_of high.sink low.sink)
ends_show {sinks} {numbers} {far} {back} {high} {low} reach held others is =
    let (one, here, at) = some_and (slice_get sinks high.sink) (λ sink. far sink ≡ high.far)
    held.attained in
    let (other, there, also) = some_and (slice_get sinks low.sink) (λ sink. back sink ≡ low.far)
    others.attained in
    pair_shows sinks numbers reach high.sink low.sink one other held.among others.among here there
    (is one other (found_among (slice_get sinks) numbers high.sink one held.among here)
    (found_among (slice_get sinks) numbers low.sink other others.among there) at also)

-- the sinks that are furthest in u show the reach where the spread in u is no smaller
pub u_ends_show : (sinks : List Sink) (numbers : List ℕ) (reach : ℤ) (ends : Ends)
    → AreEnds sinks numbers ends → reach +ℤ reach ≡ spread (extremes_of ends)
    → (ends.high_v.far +ℤ ends.low_v.far) ≤ℤ (ends.high_u.far +ℤ ends.low_u.far)
    → ShowsMerge sinks numbers reach (pair_of ends.high_u.sink ends.low_u.sink)
u_ends_show sinks numbers reach ends are twice wider =
    let set = filter_map (slice_get sinks) numbers in
    let all : Extremes = extremes_of ends in
    let is : spread all ≡ all.greatest_u -ℤ all.least_u = omega (arith, ints, clamps, wider) in
    let reached = subst (IsDoubleReach set) is
    (spread_is_reach set all (ends_are_extremes sinks numbers ends are)) in
    ends_show reach are.high_u are.low_u (λ one other among also at back. twice ∙ is
    ∙ sym (sinks_of_u_show set all one other reached among also at (omega (arith, ints, back))))

-- and those in v where the spread in v is no smaller
pub v_ends_show : (sinks : List Sink) (numbers : List ℕ) (reach : ℤ) (ends : Ends)
    → AreEnds sinks numbers ends → reach +ℤ reach ≡ spread (extremes_of ends)
    → (ends.high_u.far +ℤ ends.low_u.far) ≤ℤ (ends.high_v.far +ℤ ends.low_v.far)
    → ShowsMerge sinks numbers reach (pair_of ends.high_v.sink ends.low_v.sink)
v_ends_show sinks numbers reach ends are twice wider =
    let set = filter_map (slice_get sinks) numbers in
    let all : Extremes = extremes_of ends in
    let is : spread all ≡ all.greatest_v -ℤ all.least_v = omega (arith, ints, clamps, wider) in
    let reached = subst (IsDoubleReach set) is
    (spread_is_reach set all (ends_are_extremes sinks numbers ends are)) in
    ends_show reach are.high_v are.low_v (λ one other among also at back. twice ∙ is
    ∙ sym (sinks_of_v_show set all one other reached among also at (omega (arith, ints, back))))

-- ---- regions

module _ (ends : Ends) (total reach : ℤ) (value : total ≡ spread (extremes_of ends))
    (below : IsBelow (4 * 10 ^ 31) total) (multiple : IsMultipleOf 8 total)
    (twice : reach +ℤ reach ≡ total) where
  -- how far an end is from the reach, as the code keeps it
  pub low : (end : End) → kept (kept end.far -ℤ kept reach) ≡ end.far -ℤ reach
  low end = difference_read end.far reach (omega (arith, ints, end.valid)) (omega (arith, ints))
      (omega (arith, ints, end.valid))

  pub high : (end : End) → kept (kept reach -ℤ kept end.far) ≡ neg_ℤ end.far +ℤ reach
  high end = difference_read reach end.far (omega (arith, ints)) (omega (arith, ints, end.valid))
      (omega (arith, ints, end.valid)) ∙ omega (arith, ints)

  -- is a side
  pub is_side : (end : End) (side : ℤ) → nat_abs side ≡ nat_abs (end.far -ℤ reach) → IsSide side
  is_side end side same = record {
    below = record {
      above = omega (arith, ints, end.valid);
      below = omega (arith, ints, end.valid);
    };
    multiple = omega (arith, ints, end.valid);
  }

  -- half of the spread leaves the sides in order
  abbrev pub region_of : Rect
  region_of = record {
    ulo = kept (kept ends.high_u.far -ℤ kept reach);
    uhi = kept (kept reach -ℤ kept ends.low_u.far);
    vlo = kept (kept ends.high_v.far -ℤ kept reach);
    vhi = kept (kept reach -ℤ kept ends.low_v.far);
    valid = rw (low ends.high_u, high ends.low_u, low ends.high_v, high ends.low_v) (record {
      u_ordered = omega (arith, ints, clamps);
      v_ordered = omega (arith, ints, clamps);
      least_u = is_side ends.high_u _ refl;
      greatest_u = is_side ends.low_u _ (omega (arith, ints));
      least_v = is_side ends.high_v _ refl;
      greatest_v = is_side ends.low_v _ (omega (arith, ints));
    });
  }

  pub region_sides : HasExtremeSides region_of (extremes_of ends) (kept reach)
  region_sides = subst (HasExtremeSides region_of (extremes_of ends))
      (sym (to_z-of_z w128 reach (omega (arith, ints)))) (record {
        ulo = low ends.high_u;
        uhi = high ends.low_u;
        vlo = low ends.high_v;
        vhi = high ends.low_v;
      })
