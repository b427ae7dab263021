-- From the offsets of a schedule's sinks to its skews, and back.
use Rattle.cts_model.proofs.Vocabulary.{◌≡◌, ◌⊎◌, ℕ, zero, suc, ◌<◌, ◌≤◌, ◌*◌, ℤ, pos, ◌+ℤ◌, ◌-ℤ◌, ◌*ℤ◌, neg_ℤ, ◌≤ℤ◌, ◌<ℤ◌, List, [], ◌∷◌, length, get_or, Some, inl, inr, refl, sym, ap, subst, ◌∙◌, arith, IfSome, nat_abs, *ℤ_comm, *ℤ-zero, cases_lt, ints, by_lt_z, slice_get_past, Fraction, Circuit, Point, Sink, Uv, Tech, Merge, least_delay, greatest_delay, AreWiresDown, Embedding, IsLeastWire, RealisesOffsets, total_wire, grid_of, scheduled_length, sink_of, sinks_of, IsSkewOf, RealisesSchedule, arrival_of, Meets}
use Rattle.std.specs.Prelude.{slice_get}
use Rattle.cts_model.specs.Types.{Schedule}
use Rattle.cts_model.specs.Vocabulary.{IsLeastForSchedule, MeetsByWire}
use Rattle.cts_model.specs.tree.WireDelays.{delay_period, delay_scale, wire_delay}
use Rattle.cts_model.proofs.PathRegisters.{path_within}
use Rattle.cts_model.proofs.ScaleLemmas.{size_same, scale_le, scale-add, scale-sub, scale-finer}

-- ---- on plain numbers

-- two factors from 0 on, one after the other
times_times : (m n : ℕ) (z : ℤ) → (z *ℤ pos m) *ℤ pos n ≡ pos (m * n) *ℤ z
times_times m n z = ap (λ x. x *ℤ pos n) (*ℤ_comm z (pos m)) ∙ *ℤ_comm (pos m *ℤ z) (pos n)
    ∙ sym (scale-finer m n z)

-- a scale keeps a strict order
scale_lt : (scale : ℕ) (a b : ℤ) → 1 ≤ scale → a <ℤ b → (pos scale *ℤ a) <ℤ (pos scale *ℤ b)
scale_lt scale a b some less =
    let over = scale_le scale (a +ℤ pos 1) b (omega (arith, ints)) in
    let parts = scale-add scale a (pos 1) in
    omega (arith, ints)

-- a scale cancels
scale_same : (scale : ℕ) (a b : ℤ) → 1 ≤ scale → pos scale *ℤ a ≡ pos scale *ℤ b → a ≡ b
scale_same scale a b some same = by_lt_z a b
    (λ less. let over = scale_lt scale a b some less in absurd (omega (arith, ints)))
    (λ ordered. by_lt_z b a
    (λ less. let over = scale_lt scale b a some less in absurd (omega (arith, ints)))
    (λ other. omega (arith, ints)))

-- a scale goes past a sign
scale-neg : (scale : ℕ) (a : ℤ) → pos scale *ℤ neg_ℤ a ≡ neg_ℤ (pos scale *ℤ a)
scale-neg scale a =
    let parts = scale-add scale a (neg_ℤ a) in
    let none : a +ℤ neg_ℤ a ≡ pos 0 = omega (arith, ints) in
    let nothing = ap (λ z. pos scale *ℤ z) none ∙ *ℤ-zero (pos scale) in
    omega (arith, ints)

-- the grid steps that delay as long as a tick over the denominator, however the factors stand
steps_product : (scale den num over : ℕ)
    → (over * scale) * (1000000 * (8 * den * num)) ≡ (8000000 * over * scale) * (num * den)
steps_product scale den num over = grind arith

-- the length of wire that delays as long as so many ticks over a denominator
module _ (scale den num over : ℕ) where
  abbrev steps : ℕ
  steps = 8000000 * over * scale

  -- what a skew asks of the arrivals
  arrival_side : (arrival : ℤ)
      → ((arrival *ℤ pos over) *ℤ pos scale) *ℤ pos (1000000 * (8 * den * num))
      ≡ pos (num * den) *ℤ (pos steps *ℤ arrival)
  arrival_side arrival =
      let grid = 1000000 * (8 * den * num) in
      ap (λ z. z *ℤ pos grid) (times_times over scale arrival)
      ∙ *ℤ_comm (pos (over * scale) *ℤ arrival) (pos grid)
      ∙ sym (scale-finer (over * scale) grid arrival)
      ∙ ap (λ n. pos n *ℤ arrival) (steps_product scale den num over)
      ∙ scale-finer steps (num * den) arrival

  -- that many steps are a skew
  skew_from_steps : (wire arrival : ℤ) → wire ≡ pos steps *ℤ arrival
      → (wire *ℤ pos num) *ℤ pos den
      ≡ ((arrival *ℤ pos over) *ℤ pos scale) *ℤ pos (1000000 * (8 * den * num))
  skew_from_steps wire arrival same = times_times num den wire
      ∙ ap (λ z. pos (num * den) *ℤ z) same ∙ sym (arrival_side arrival)

  -- and a skew is that many steps
  steps_from_skew : (wire arrival : ℤ) → 1 ≤ num * den
      → (wire *ℤ pos num) *ℤ pos den
      ≡ ((arrival *ℤ pos over) *ℤ pos scale) *ℤ pos (1000000 * (8 * den * num))
      → wire ≡ pos steps *ℤ arrival
  steps_from_skew wire arrival some skew =
      scale_same (num * den) wire (pos steps *ℤ arrival) some
      (sym (times_times num den wire) ∙ skew ∙ arrival_side arrival)

-- ---- of a table and a period

module _ (period : Fraction) (tech : Tech) where
  abbrev den : ℕ
  den = nat_abs period.den

  abbrev num : ℕ
  num = nat_abs tech.wire_num

  abbrev over : ℕ
  over = nat_abs tech.wire_den

  den_is : pos den ≡ period.den
  den_is = size_same period.den (omega (arith, ints, period.lowest.some_den))

  num_is : pos num ≡ tech.wire_num
  num_is = size_same tech.wire_num (omega (arith, ints, tech.valid.wire_num_within.above))

  over_is : pos over ≡ tech.wire_den
  over_is = size_same tech.wire_den (omega (arith, ints, tech.valid.wire_den_within.above))

  -- none of them is 0
  some_product : 1 ≤ num * den
  some_product =
      let some_num : 1 ≤ num = omega (arith, ints, num_is, tech.valid.wire_num_within.above) in
      let some_den : 1 ≤ den = omega (arith, ints, den_is, period.lowest.some_den) in
      grind arith

  -- what a skew asks, by whole numbers from 0 on
  abbrev IsPlainSkew : (scale : ℕ) (wire arrival : ℤ) → Type 0
  IsPlainSkew scale wire arrival = (wire *ℤ pos num) *ℤ pos den
      ≡ ((arrival *ℤ pos over) *ℤ pos scale) *ℤ pos (1000000 * (8 * den * num))

  -- both sides are the same numbers
  wire_same : (wire : ℤ)
      → (wire *ℤ pos num) *ℤ pos den ≡ wire *ℤ tech.wire_num *ℤ period.den
  wire_same wire = λ i. wire *ℤ num_is i *ℤ den_is i

  arrival_same : (scale : ℕ) (arrival : ℤ)
      → ((arrival *ℤ pos over) *ℤ pos scale) *ℤ pos (1000000 * (8 * den * num))
      ≡ arrival *ℤ tech.wire_den *ℤ pos scale *ℤ grid_of period tech
  arrival_same scale arrival = λ i.
      arrival *ℤ over_is i *ℤ pos scale *ℤ (pos 1000000 *ℤ (pos 8 *ℤ den_is i *ℤ num_is i))

  to_plain : (scale : ℕ) (wire wire' arrival arrival' : ℤ)
      → IsSkewOf scale period tech wire wire' arrival arrival'
      → IsPlainSkew scale (wire -ℤ wire') (arrival -ℤ arrival')
  to_plain scale wire wire' arrival arrival' skew = wire_same (wire -ℤ wire') ∙ skew
      ∙ sym (arrival_same scale (arrival -ℤ arrival'))

  from_plain : (scale : ℕ) (wire wire' arrival arrival' : ℤ)
      → IsPlainSkew scale (wire -ℤ wire') (arrival -ℤ arrival')
      → IsSkewOf scale period tech wire wire' arrival arrival'
  from_plain scale wire wire' arrival arrival' skew = sym (wire_same (wire -ℤ wire')) ∙ skew
      ∙ arrival_same scale (arrival -ℤ arrival')

  -- a sink's offset over a scale, by its arrival
  offset_over : (scale : ℕ) (arrival : ℤ)
      → pos scale *ℤ neg_ℤ (scheduled_length tech arrival)
      ≡ neg_ℤ (pos (8000000 * over * scale) *ℤ arrival)
  offset_over scale arrival =
      scale-neg scale (scheduled_length tech arrival)
      ∙ ap (λ z. neg_ℤ (pos scale *ℤ (pos 8000000 *ℤ z *ℤ arrival))) (sym over_is)
      ∙ ap neg_ℤ (sym (scale-finer (8000000 * over) scale arrival))

  -- registers with wires that end at one level have skews of as many steps
  skew_of_level : (scale : ℕ) (wire wire' arrival arrival' common : ℤ)
      → wire +ℤ pos scale *ℤ neg_ℤ (scheduled_length tech arrival) ≡ common
      → wire' +ℤ pos scale *ℤ neg_ℤ (scheduled_length tech arrival') ≡ common
      → IsSkewOf scale period tech wire wire' arrival arrival'
  skew_of_level scale wire wire' arrival arrival' common one other =
      let first = offset_over scale arrival in
      let second = offset_over scale arrival' in
      let parts = scale-sub (8000000 * over * scale) arrival arrival' in
      from_plain scale wire wire' arrival arrival'
      (skew_from_steps scale den num over (wire -ℤ wire') (arrival -ℤ arrival')
      (omega (arith, ints, one, other, first, second, parts)))

  -- and the other way round
  level_of_skew : (scale : ℕ) (wire wire' arrival arrival' common : ℤ)
      → wire +ℤ pos scale *ℤ neg_ℤ (scheduled_length tech arrival) ≡ common
      → IsSkewOf scale period tech wire' wire arrival' arrival
      → wire' +ℤ pos scale *ℤ neg_ℤ (scheduled_length tech arrival') ≡ common
  level_of_skew scale wire wire' arrival arrival' common one skew =
      let steps_are = steps_from_skew scale den num over (wire' -ℤ wire) (arrival' -ℤ arrival)
      some_product (to_plain scale wire' wire arrival' arrival skew) in
      let first = offset_over scale arrival in
      let second = offset_over scale arrival' in
      let parts = scale-sub (8000000 * over * scale) arrival' arrival in
      omega (arith, ints, one, first, second, parts, steps_are)

-- ---- of sinks

-- there is a sink for each register
pub length-sinks_of : (period : Fraction) (tech : Tech) (places : List Point) (at : List ℤ)
    → length places ≡ length at → length (sinks_of period tech places at) ≡ length at
length-sinks_of period tech [] [] same = refl
length-sinks_of period tech [] (arrival ∷ at) same = absurd (omega arith)
length-sinks_of period tech (place ∷ places) [] same = absurd (omega arith)
length-sinks_of period tech (place ∷ places) (arrival ∷ at) same =
    ap suc (length-sinks_of period tech places at (omega arith))

-- the one of a register
pub sink_at : (period : Fraction) (tech : Tech) (places : List Point) (at : List ℤ)
    → (default : Point) (register : ℕ) → length places ≡ length at → register < length at
    → slice_get (sinks_of period tech places at) register
    ≡ Some (sink_of period tech (get_or places register default) (arrival_of at register))
sink_at period tech [] [] default register same here = absurd (omega arith)
sink_at period tech [] (arrival ∷ at) default register same here = absurd (omega arith)
sink_at period tech (place ∷ places) [] default register same here = absurd (omega arith)
sink_at period tech (place ∷ places) (arrival ∷ at) default zero same here = refl
sink_at period tech (place ∷ places) (arrival ∷ at) default (suc register) same here =
    sink_at period tech places at default register (omega arith) (omega arith)

module _ (scale : ℕ) (period : Fraction) (tech : Tech) (places : List Point) (schedule : Schedule)
    (merges : List Merge) (tree : Embedding) (same : length places ≡ length schedule.at) where
  abbrev sinks : List Sink
  sinks = sinks_of period tech places schedule.at

  -- where no place is given
  abbrev origin : Point
  origin = record { x = pos 0; y = pos 0 }

  -- what the wire to a register and its arrival's length leave
  abbrev left_of : (wire : ℕ → ℤ) → ℕ → ℤ
  left_of wire register = wire register
      +ℤ pos scale *ℤ neg_ℤ (scheduled_length tech (arrival_of schedule.at register))

  -- a tree that realises the offsets of a schedule's sinks realises the schedule
  pub offsets_are_skews : RealisesOffsets scale sinks merges tree
      → RealisesSchedule scale period tech merges schedule tree
  offsets_are_skews realised = record {
    wire = realised.wire;
    wires = subst (λ count. AreWiresDown count merges tree.length realised.wire)
        (length-sinks_of period tech places schedule.at same) realised.wires;
    skews = λ one other first second. skew_of_level period tech scale (realised.wire one)
        (realised.wire other) (arrival_of schedule.at one) (arrival_of schedule.at other)
        realised.common (level one first) (level other second);
  }
    where
      level : (register : ℕ) → register < length schedule.at
          → left_of realised.wire register ≡ realised.common
      level register here = subst (λ found. IfSome found (λ sink.
          realised.wire register +ℤ (pos scale *ℤ sink.offset) ≡ realised.common))
          (sink_at period tech places schedule.at origin register same here)
          (realised.level register)

  -- and the other way round
  pub skews_are_offsets : RealisesSchedule scale period tech merges schedule tree
      → RealisesOffsets scale sinks merges tree
  skews_are_offsets realised = record {
    wire = realised.wire;
    wires = subst (λ count. AreWiresDown count merges tree.length realised.wire)
        (sym (length-sinks_of period tech places schedule.at same)) realised.wires;
    common = left_of realised.wire 0;
    level = λ register. level register (cases_lt register (length schedule.at));
  }
    where
      level : (register : ℕ)
          → (register < length schedule.at) ⊎ (length schedule.at ≤ register)
          → IfSome (slice_get sinks register) (λ sink.
          realised.wire register +ℤ (pos scale *ℤ sink.offset) ≡ left_of realised.wire 0)
      level register (inl here) = subst (λ found. IfSome found (λ sink.
          realised.wire register +ℤ (pos scale *ℤ sink.offset) ≡ left_of realised.wire 0))
          (sym (sink_at period tech places schedule.at origin register same here))
          (level_of_skew period tech scale (realised.wire 0) (realised.wire register)
          (arrival_of schedule.at 0) (arrival_of schedule.at register) (left_of realised.wire 0)
          refl (realised.skews register 0 here (omega arith)))
      level register (inr past) = subst (λ found. IfSome found (λ sink.
          realised.wire register +ℤ (pos scale *ℤ sink.offset) ≡ left_of realised.wire 0))
          (sym (slice_get_past sinks register
          (omega (arith, past, length-sinks_of period tech places schedule.at same)))) tt

-- the least wire for the offsets is the least for the schedule
pub least_for_schedule : (period : Fraction) (tech : Tech) (places : List Point)
    → (schedule : Schedule) (merges : List Merge) (source : Uv) (wire : ℤ)
    → length places ≡ length schedule.at
    → IsLeastWire (sinks_of period tech places schedule.at) merges source wire
    → IsLeastForSchedule period tech places schedule merges source wire
least_for_schedule period tech places schedule merges source wire same least scale other some
    embedded realised =
    subst (λ count. (pos scale *ℤ wire) ≤ℤ total_wire count other)
    (length-sinks_of period tech places schedule.at same)
    (least scale other some embedded
    (skews_are_offsets scale period tech places schedule merges other same realised))

-- ---- of paths

-- two launches that differ as a schedule's do, each that many times as large, meet what it meets
module _ (times : ℕ) (wire wire' arrival arrival' : ℤ)
    (differ : wire -ℤ wire' ≡ pos times *ℤ (arrival -ℤ arrival')) where
  setup_over : (den : ℕ) (spent period : ℤ)
      → (arrival +ℤ (pos den *ℤ spent)) ≤ℤ (arrival' +ℤ period)
      → (wire +ℤ (pos (den * times) *ℤ spent)) ≤ℤ (wire' +ℤ (pos times *ℤ period))
  setup_over den spent period met =
      let over = scale_le times (arrival +ℤ (pos den *ℤ spent)) (arrival' +ℤ period) met in
      let launched = scale-add times arrival (pos den *ℤ spent) in
      let captured = scale-add times arrival' period in
      let parts = scale-sub times arrival arrival' in
      let finer = scale-finer den times spent in
      omega (arith, ints)

  hold_over : (den : ℕ) (spent period : ℤ)
      → (arrival' +ℤ (pos den *ℤ period)) ≤ℤ (arrival +ℤ (pos den *ℤ spent))
      → (wire' +ℤ (pos (den * times) *ℤ period)) ≤ℤ (wire +ℤ (pos (den * times) *ℤ spent))
  hold_over den spent period met =
      let over = scale_le times (arrival' +ℤ (pos den *ℤ period)) (arrival +ℤ (pos den *ℤ spent))
      met in
      let launched = scale-add times arrival (pos den *ℤ spent) in
      let captured = scale-add times arrival' (pos den *ℤ period) in
      let parts = scale-sub times arrival arrival' in
      let finer = scale-finer den times spent in
      let other = scale-finer den times period in
      omega (arith, ints)

-- factors in another order
scale_product : (den grid over : ℕ) → den * grid * over ≡ den * (over * 1 * grid)
scale_product den grid over = grind arith

period_product : (grid over : ℕ) → grid * over ≡ over * 1 * grid
period_product grid over = grind arith

module _ (circuit : Circuit) (tech : Tech) (period : Fraction) (merges : List Merge)
    (schedule : Schedule) (tree : Embedding)
    (all : length schedule.at ≡ length circuit.registers)
    (met : Meets circuit tech (nat_abs period.den) period.num (arrival_of schedule.at))
    (realised : RealisesSchedule 1 period tech merges schedule tree) where
  -- how many grid steps a length unit has
  abbrev grid : ℕ
  grid = 1000000 * (8 * den period tech * num period tech)

  -- how many times as large as the arrivals the delays of the wires are
  abbrev times : ℕ
  times = over period tech * 1 * grid

  scale_is : delay_scale period tech ≡ den period tech * times
  scale_is = ap nat_abs (sym (λ i. den_is period tech i
      *ℤ (pos 1000000 *ℤ (pos 8 *ℤ den_is period tech i *ℤ num_is period tech i))
      *ℤ over_is period tech i))
      ∙ scale_product (den period tech) grid (over period tech)

  period_is : delay_period period tech ≡ pos times *ℤ period.num
  period_is = sym (λ i. period.num
      *ℤ (pos 1000000 *ℤ (pos 8 *ℤ den_is period tech i *ℤ num_is period tech i))
      *ℤ over_is period tech i)
      ∙ times_times grid (over period tech) period.num
      ∙ ap (λ n. pos n *ℤ period.num) (period_product grid (over period tech))

  -- the delay of the wire to a register
  abbrev delay : ℕ → ℤ
  delay register = wire_delay period tech (realised.wire register)

  delay_is : (register : ℕ)
      → delay register ≡ pos (num period tech * den period tech) *ℤ realised.wire register
  delay_is register = sym (wire_same period tech (realised.wire register))
      ∙ times_times (num period tech) (den period tech) (realised.wire register)

  delays_differ : (one other : ℕ) → one < length schedule.at → other < length schedule.at
      → delay one -ℤ delay other
      ≡ pos times *ℤ (arrival_of schedule.at one -ℤ arrival_of schedule.at other)
  delays_differ one other here there =
      let wire = realised.wire one in
      let wire' = realised.wire other in
      let apart = arrival_of schedule.at one -ℤ arrival_of schedule.at other in
      let factor = num period tech * den period tech in
      (λ i. delay_is one i -ℤ delay_is other i)
      ∙ sym (scale-sub factor wire wire')
      ∙ sym (times_times (num period tech) (den period tech) (wire -ℤ wire'))
      ∙ to_plain period tech 1 wire wire' (arrival_of schedule.at one)
      (arrival_of schedule.at other) (realised.skews one other here there)
      ∙ ap (λ z. z *ℤ pos grid) (times_times (over period tech) 1 apart)
      ∙ times_pair (over period tech * 1) grid apart
    where
      times_pair : (m n : ℕ) (z : ℤ) → (pos m *ℤ z) *ℤ pos n ≡ pos (m * n) *ℤ z
      times_pair m n z = *ℤ_comm (pos m *ℤ z) (pos n) ∙ sym (scale-finer m n z)

  -- where the arrivals of a schedule meet the period, so do the delays of the wires
  pub realised_meets : MeetsByWire circuit tech period realised.wire
  realised_meets = subst (λ scale. Meets circuit tech scale (delay_period period tech) delay)
      (sym scale_is) (subst (λ p. Meets circuit tech (den period tech * times) p delay)
      (sym period_is) (record {
        setup = λ from to path joins.
            let within = path_within circuit from to path joins in
            setup_over times (delay from) (delay to) (arrival_of schedule.at from)
            (arrival_of schedule.at to)
            (delays_differ from to (omega (arith, all, within.0)) (omega (arith, all, within.1)))
            (den period tech) (greatest_delay circuit tech path +ℤ tech.setup) period.num
            (met.setup from to path joins);
        hold = λ from to path joins.
            let within = path_within circuit from to path joins in
            hold_over times (delay from) (delay to) (arrival_of schedule.at from)
            (arrival_of schedule.at to)
            (delays_differ from to (omega (arith, all, within.0)) (omega (arith, all, within.1)))
            (den period tech) (least_delay circuit tech path) tech.hold
            (met.hold from to path joins);
      }))
