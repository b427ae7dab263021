-- The registers of a problem are sinks of a tree, and its source is a tree's.
use Rattle.cts_engine.proofs.Vocabulary.{◌≡◌, ◌<◌, ◌≤◌, ◌+◌, ◌*◌, ◌^◌, ℕ, ℤ, pos, ◌+ℤ◌, ◌-ℤ◌, ◌*ℤ◌, neg_ℤ, List, length, get_or, sym, ap, subst, ◌∙◌, arith, All, nat_abs, ints, get_or_from_slice_get, Fraction, Point, Tech, IsMultipleOf, IsPointBelow, IsUvBelow, IsUvMultipleOf, rotated, on_grid, scheduled_length, sink_of, sinks_of, steps_of_micro, IsSmallPeriod, arrival_of, AreTreeSinks, IsTreeSink, IsWithin, scale-finer, size_same, length-sinks_of, sink_at, IsTreeSource, AreTreeArrivals, on_grid_below, scheduled_size}

-- ---- plain numbers

-- eight times a number, with another, or the other way round
sum_of_eighths : (a b w z : ℤ) → a ≡ pos 8 *ℤ w → b ≡ pos 8 *ℤ z → IsMultipleOf 8 (a +ℤ b)
sum_of_eighths a b w z first second = omega (arith, ints)

difference_of_eighths : (a b w z : ℤ) → a ≡ pos 8 *ℤ w → b ≡ pos 8 *ℤ z
    → IsMultipleOf 8 (a -ℤ b)
difference_of_eighths a b w z first second = omega (arith, ints)

minus_eighths : (a w : ℤ) → a ≡ pos 8 *ℤ w → IsMultipleOf 8 (neg_ℤ a)
minus_eighths a w is = omega (arith, ints)

-- factors in another order
eight_last : (den num : ℕ) → 8 * den * num ≡ den * num * 8
eight_last den num = grind arith

-- a point below a bound has rotated coordinates below its double
pub rotated_below : (bound : ℕ) (point : Point) → bound + bound ≤ 10 ^ 31
    → IsPointBelow bound point → IsUvBelow (10 ^ 31) (rotated point)
rotated_below bound point low below = search (arith, ints)

-- ---- of a problem

module _ (period : Fraction) (tech : Tech) where
  -- a coordinate in grid steps is eight times a number
  coordinate_of_eighths : (coordinate : ℤ) → (eighth : ℤ)
      × (steps_of_micro period tech *ℤ coordinate ≡ pos 8 *ℤ eighth)
  coordinate_of_eighths coordinate =
      let den = nat_abs period.den in
      let num = nat_abs tech.wire_num in
      let den_is = size_same period.den (omega (arith, ints, period.lowest.some_den)) in
      let num_is = size_same tech.wire_num (omega (arith, ints, tech.valid.wire_num_within)) in
      let steps : pos (8 * den * num) ≡ steps_of_micro period tech =
      λ i. pos 8 *ℤ den_is i *ℤ num_is i in (
        pos (den * num) *ℤ coordinate,
        ap (λ z. z *ℤ coordinate) (sym steps)
            ∙ ap (λ n. pos n *ℤ coordinate) (eight_last den num)
            ∙ scale-finer (den * num) 8 coordinate,
      )

  -- so rotated coordinates are multiples of 8
  pub rotated_multiple : (point : Point) → IsUvMultipleOf 8 (rotated (on_grid period tech point))
  rotated_multiple point =
      let (x, x_is) = coordinate_of_eighths point.x in
      let (y, y_is) = coordinate_of_eighths point.y in
      record {
        u = sum_of_eighths (steps_of_micro period tech *ℤ point.x)
            (steps_of_micro period tech *ℤ point.y) x y x_is y_is;
        v = difference_of_eighths (steps_of_micro period tech *ℤ point.x)
            (steps_of_micro period tech *ℤ point.y) x y x_is y_is;
      }

  -- and so are scheduled lengths
  scheduled_multiple : (arrival : ℤ) → IsMultipleOf 8 (neg_ℤ (scheduled_length tech arrival))
  scheduled_multiple arrival = search (arith, size_same, ints, minus_eighths, scale-finer)

  module _ (small : IsSmallPeriod period) where
    -- the source
    pub tree_source : (point : Point) → IsPointBelow 1000000000000001 point
        → IsTreeSource (rotated (on_grid period tech point))
    tree_source point near = record {
      below = rotated_below (10 ^ 26) (on_grid period tech point) (omega arith)
          (on_grid_below period tech small point near);
      multiple = rotated_multiple point;
    }

    -- a register
    tree_sink : (place : Point) (arrival : ℤ) → IsPointBelow 1000000000000001 place
        → IsWithin 0 1200000000000000000 arrival → IsTreeSink (sink_of period tech place arrival)
    tree_sink place arrival near within =
        let source = tree_source place near in
        let size = scheduled_size tech arrival 1200000000000000000
        (omega (arith, ints, within)) in
        record {
          at_below = source.below;
          at_multiple = source.multiple;
          offset_below = record {
            above = omega (arith, ints, size);
            below = omega (arith, ints, size);
          };
          offset_multiple = scheduled_multiple arrival;
        }

    -- all registers
    pub tree_sinks : (places : List Point) (at : List ℤ) → length places ≡ length at
        → 1 ≤ length at → length at ≤ 4097 → All (IsPointBelow 1000000000000001) places
        → AreTreeArrivals at → AreTreeSinks (sinks_of period tech places at)
    tree_sinks places at same some few near arrivals =
        let count = length-sinks_of period tech places at same in
        record {
          some = omega (arith, count);
          few = omega (arith, count);
          each = λ register default here.
              let origin : Point = record { x = pos 0; y = pos 0 } in
              let low : register < length at = omega (arith, here, count) in
              let found = sink_at period tech places at origin register same low in
              subst IsTreeSink (sym (get_or_from_slice_get (sinks_of period tech places at)
              register (sink_of period tech (get_or places register origin)
              (arrival_of at register)) default found))
              (tree_sink (get_or places register origin) (arrival_of at register)
              (near register origin (omega (arith, same))) (arrivals register));
        }
