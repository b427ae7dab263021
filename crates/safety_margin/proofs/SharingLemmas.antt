-- The gains of constraints that are to spare a margin: over the least common multiple they are
-- whole, small, admitted, and say the same as the margin.
use Rattle.safety_margin.proofs.Vocabulary.{◌≡◌, ℕ, zero, suc, ◌+◌, ◌*◌, ◌/◌, ◌≤◌, ◌^◌, ◌∙◌, ℤ, pos, negsuc, neg_ℤ, ◌+ℤ◌, ◌-ℤ◌, ◌*ℤ◌, ◌≤ℤ◌, ◌<ℤ◌, Bool, true, false, if◌then◌else◌, List, get_or, sym, ap, subst, arith, nat_abs, div-mul-le_self, lt-mul-div-succ, mul-le-mul_left, pos-*ℤ-pos, ints, by_lt_z, mul-le, Fraction, Constraint, count_of, IsBelow, IsMarginPeriod, arrival_of, size_same, IsOver, Spares, AreGainsAt, CanSpare, IsShare, IsSmallMargin, AreLeastSparing, IsLeastMultiple, up, down}
use Rattle.relaxation.specs.declared.gains.Gains.{Gains}
use Rattle.relaxation.specs.Gains.{AdmitsGains, SatisfiesGains, gain_of}
use Rattle.schedule.specs.Gains.{AreLeastArrivalsBy}
use Rattle.safety_margin.proofs.MarginLemmas.{den_is, den_some}

-- a number over a divisor, rounded down
abbrev floor : ℤ → ℕ → ℤ
floor (pos n) t = pos (n / t)
floor (negsuc n) t = negsuc (n / t)

-- it is no more than the number
floor_low : (x : ℤ) (t : ℕ) → 1 ≤ t → (floor x t *ℤ pos t) ≤ℤ x
floor_low (pos n) t some = omega (arith, ints, div-mul-le_self n t)
floor_low (negsuc n) t some = omega (arith, ints, lt-mul-div-succ n some)

-- and the next one is more
floor_high : (x : ℤ) (t : ℕ) → 1 ≤ t → x <ℤ ((floor x t +ℤ pos 1) *ℤ pos t)
floor_high (pos n) t some = omega (arith, ints, lt-mul-div-succ n some)
floor_high (negsuc n) t some = over (n / t) (div-mul-le_self n t)
  where
    over : (m : ℕ) → m * t ≤ n → negsuc n <ℤ ((negsuc m +ℤ pos 1) *ℤ pos t)
    over m low = search (arith, ints)

-- so rounding keeps whole differences
floor_keeps : (x y z : ℤ) (t : ℕ) → 1 ≤ t → (y +ℤ (pos t *ℤ z)) ≤ℤ x
    → (floor y t +ℤ (pos 1 *ℤ z)) ≤ℤ floor x t
floor_keeps x y z t some above =
    over (floor x t) (floor y t) (floor_high x t some) (floor_low y t some)
  where
    over : (a b : ℤ) → x <ℤ ((a +ℤ pos 1) *ℤ pos t) → (b *ℤ pos t) ≤ℤ y
        → (b +ℤ (pos 1 *ℤ z)) ≤ℤ a
    over a b high low = by_lt_z a (b +ℤ (pos 1 *ℤ z))
        (λ more.
        let next = a +ℤ pos 1 in
        let next_plain : up next + down a ≡ down next + up a + 1 = omega (arith, ints) in
        let more_plain : up a + down b + down z + 1 ≤ down a + up b + up z = omega (arith, ints) in
        let high_plain : up x + t * down next + 1 ≤ down x + t * up next = omega (arith, ints) in
        let low_plain : t * up b + down y ≤ t * down b + up y = omega (arith, ints) in
        let above_plain : up y + t * up z + down x ≤ down y + t * down z + up x =
        omega (arith, ints) in
        absurd (omega (
          arith,
          ap (λ n. t * n) next_plain,
          mul-le-mul_left t more_plain,
        )))
        (λ less. less)

-- the gain of a constraint over numbers
gain_over : (setup : Bool) (q u z : ℕ) (p v w : ℤ)
    → ((pos q *ℤ pos u) *ℤ w)
    -ℤ (if setup then (p *ℤ pos u) -ℤ (v *ℤ pos z) else neg_ℤ (v *ℤ pos z))
    ≡ ((pos (q * u) *ℤ w) +ℤ (v *ℤ pos z)) -ℤ ((p *ℤ pos u) *ℤ pos (if setup then 1 else 0))
gain_over true q u z p v w =
    rw (pos-*ℤ-pos q u) (at (pos (q * u) *ℤ w) (p *ℤ pos u) (v *ℤ pos z))
  where
    at : (a b c : ℤ) → a -ℤ (b -ℤ c) ≡ (a +ℤ c) -ℤ (b *ℤ pos 1)
    at a b c = omega (arith, ints)
gain_over false q u z p v w =
    rw (pos-*ℤ-pos q u) (at (pos (q * u) *ℤ w) (p *ℤ pos u) (v *ℤ pos z))
  where
    at : (a b c : ℤ) → a -ℤ neg_ℤ c ≡ (a +ℤ c) -ℤ (b *ℤ pos 0)
    at a b c = omega (arith, ints)

-- and over equal numbers
gain_same : (setup : Bool) (q u z : ℕ) (den first second p v w : ℤ) → den ≡ pos q
    → first ≡ pos u → second ≡ pos z → ((den *ℤ first) *ℤ w)
    -ℤ (if setup then (p *ℤ first) -ℤ (v *ℤ second) else neg_ℤ (v *ℤ second))
    ≡ ((pos (q * u) *ℤ w) +ℤ (v *ℤ pos z)) -ℤ ((p *ℤ pos u) *ℤ pos (if setup then 1 else 0))
gain_same setup q u z den first second p v w den_is first_is second_is =
    rw (den_is, first_is, second_is) (gain_over setup q u z p v w)

-- a share is from 0 on
share_some : (share : ℤ) (d q u : ℕ) → 1 ≤ d → share *ℤ pos d ≡ pos q *ℤ pos u → pos 0 ≤ℤ share
share_some (pos n) d q u some is = omega (arith, ints)
share_some (negsuc n) (suc d) q u some is = absurd (omega (arith, ints))
share_some (negsuc n) zero q u some is = absurd (omega arith)

module _ {period value share : Fraction} {gains : Gains}
    (is : IsShare period value share) (gains_are : AreGainsAt period value share gains) where
  -- the numbers by their sizes
  abbrev q : ℕ
  q = nat_abs period.den

  abbrev d : ℕ
  d = nat_abs value.den

  abbrev u : ℕ
  u = nat_abs share.den

  abbrev z : ℕ
  z = nat_abs share.num

  u_is : pos u ≡ share.den
  u_is = den_is share

  z_is : pos z ≡ share.num
  z_is = size_same share.num (share_some share.num d q u (den_some value) shared)
    where
      shared : share.num *ℤ pos d ≡ pos q *ℤ pos u
      shared = ap (λ w. share.num *ℤ w) (den_is value) ∙ is.same
          ∙ sym (ap (λ w. w *ℤ pos u) (den_is period) ∙ ap (λ w. period.den *ℤ w) u_is)

  -- both parts make the same multiple
  same_multiple : pos (q * u) ≡ pos (d * z)
  same_multiple = over z d q u
      (ap (λ w. w *ℤ pos d) z_is ∙ ap (λ w. share.num *ℤ w) (den_is value) ∙ is.same
      ∙ sym (ap (λ w. w *ℤ pos u) (den_is period) ∙ ap (λ w. period.den *ℤ w) u_is))
    where
      over : (z d q u : ℕ) → pos z *ℤ pos d ≡ pos q *ℤ pos u → pos (q * u) ≡ pos (d * z)
      over z d q u same = omega (arith, ints)

  -- the scale is it
  pub scale_is : gains.scale ≡ pos (q * u)
  scale_is = search (arith, den_is, u_is)

  -- the gain of a constraint
  gain_is : (it : Constraint)
      → gain_of gains it ≡ ((pos (q * u) *ℤ it.weight) +ℤ (value.num *ℤ pos z))
      -ℤ ((period.num *ℤ pos u) *ℤ pos (count_of it))
  gain_is it = search (arith, scale_is, gain_same, den_is, u_is, z_is)

  -- arrivals that satisfy the constraints by their gains spare the margin
  spares_at : (constraints : List Constraint) (arrival : ℕ → ℤ)
      → SatisfiesGains constraints gains 1 arrival
      → Spares constraints (q * u) (period.num *ℤ pos u) (value.num *ℤ pos z) arrival
  spares_at constraints arrival satisfied place default within =
      let it : Constraint = get_or constraints place default in
      at (arrival it.tail) (pos (q * u) *ℤ it.weight) (value.num *ℤ pos z)
      ((period.num *ℤ pos u) *ℤ pos (count_of it)) (arrival it.head)
      (subst (λ g. (arrival it.tail +ℤ (pos 1 *ℤ g)) ≤ℤ arrival it.head) (gain_is it)
      (satisfied place default within))
    where
      at : (from asked spared due to : ℤ) → (from +ℤ (pos 1 *ℤ ((asked +ℤ spared) -ℤ due))) ≤ℤ to
          → (from +ℤ (asked +ℤ spared)) ≤ℤ (to +ℤ due)
      at from asked spared due to met = omega (arith, ints)

  -- and those that spare it at a finer scale satisfy the constraints
  satisfies_by : (constraints : List Constraint) (times : ℕ) (other : ℕ → ℤ)
      → Spares constraints (q * u * times) ((period.num *ℤ pos u) *ℤ pos times)
      ((value.num *ℤ pos z) *ℤ pos times) other → SatisfiesGains constraints gains times other
  satisfies_by constraints times other spares place default within =
      let it : Constraint = get_or constraints place default in
      subst (λ g. (other it.tail +ℤ (pos times *ℤ g)) ≤ℤ other it.head) (sym (gain_is it))
      (at times (q * u) (count_of it) it.weight (value.num *ℤ pos z) (period.num *ℤ pos u)
      (other it.tail) (other it.head) (spares place default within))
    where
      at : (times scale count : ℕ) (w spared number from to : ℤ)
          → (from +ℤ ((pos (scale * times) *ℤ w) +ℤ (spared *ℤ pos times)))
          ≤ℤ (to +ℤ ((number *ℤ pos times) *ℤ pos count))
          → (from +ℤ (pos times *ℤ (((pos scale *ℤ w) +ℤ spared) -ℤ (number *ℤ pos count)))) ≤ℤ to
      at times scale count w spared number from to met =
          let gain = ((pos scale *ℤ w) +ℤ spared) -ℤ (number *ℤ pos count) in
          let gain_plain : up gain + scale * down w + down spared + count * up number
          ≡ down gain + scale * up w + up spared + count * down number = omega (arith, ints) in
          let due = number *ℤ pos times in
          let due_plain : up due + times * down number ≡ down due + times * up number =
          omega (arith, ints) in
          omega (arith, ints, ap (λ n. times * n) gain_plain, ap (λ n. count * n) due_plain)

  -- so the least by the gains are the least that spare it
  pub least_sparing : (constraints : List Constraint) (at : List ℤ)
      → AreLeastArrivalsBy constraints gains at
      → AreLeastSparing (Spares constraints) (q * u) (period.num *ℤ pos u) (value.num *ℤ pos z) at
  least_sparing constraints at least = record {
    spares = spares_at constraints (arrival_of at) least.satisfies;
    from_zero = least.from_zero;
    least = λ times other some others spares. least.least times other some others
        (satisfies_by constraints times other spares);
  }

  -- the scale is the least common multiple
  pub multiple : IsLeastMultiple period.den value.den gains.scale
  multiple = record {
    some = subst (λ scale. pos 1 ≤ℤ scale) (sym scale_is)
        (at q u (den_some period) (den_some share));
    first_factor = share.den;
    of_first = gains_are.scale_is;
    second_factor = share.num;
    of_second = scale_is ∙ same_multiple ∙ sym (pos-*ℤ-pos d z)
        ∙ ap (λ w. w *ℤ pos z) (den_is value) ∙ ap (λ w. value.den *ℤ w) z_is;
    coprime = share.lowest.coprime;
  }
    where
      at : (q u : ℕ) → 1 ≤ q → 1 ≤ u → pos 1 ≤ℤ pos (q * u)
      at q u some_q some_u = omega (arith, ints, mul-le-mul_left q some_u)

  -- the period over it
  pub period_over : IsOver period (q * u) (period.num *ℤ pos u)
  period_over = subst (λ w. (period.num *ℤ pos u) *ℤ w ≡ period.num *ℤ pos (q * u)) (den_is period)
      (over q u period.num)
    where
      over : (q u : ℕ) (p : ℤ) → (p *ℤ pos u) *ℤ pos q ≡ p *ℤ pos (q * u)
      over q u p =
          let inner : up (p *ℤ pos u) + u * down p ≡ down (p *ℤ pos u) + u * up p =
          omega (arith, ints) in
          omega (arith, ints, ap (λ n. q * n) inner)

  -- and the margin
  pub value_over : IsOver value (q * u) (value.num *ℤ pos z)
  value_over = subst (λ w. (value.num *ℤ pos z) *ℤ w ≡ value.num *ℤ pos (q * u)) (den_is value)
      (over d z value.num ∙ ap (λ w. value.num *ℤ w) (sym same_multiple))
    where
      over : (d z : ℕ) (v : ℤ) → (v *ℤ pos z) *ℤ pos d ≡ v *ℤ pos (d * z)
      over d z v =
          let inner : up (v *ℤ pos z) + z * down v ≡ down (v *ℤ pos z) + z * up v =
          omega (arith, ints) in
          omega (arith, ints, ap (λ n. d * n) inner)

  -- arrivals that spare it at any scale, brought to this one and rounded down, satisfy the
  -- constraints
  pub admits : (constraints : List Constraint) → CanSpare constraints period value
      → AdmitsGains constraints gains
  admits constraints can = (λ register. floor (can.arrival register *ℤ pos (q * u)) can.scale, each)
    where
      -- over numbers
      over : (t q u d z k : ℕ) (w g p n v from to : ℤ) → pos (q * u) ≡ pos (d * z)
          → p *ℤ pos q ≡ n *ℤ pos t → g *ℤ pos d ≡ v *ℤ pos t
          → (from +ℤ ((pos t *ℤ w) +ℤ g)) ≤ℤ (to +ℤ (p *ℤ pos k))
          → ((from *ℤ pos (q * u)) +ℤ (pos t *ℤ (((pos (q * u) *ℤ w) +ℤ (v *ℤ pos z))
          -ℤ ((n *ℤ pos u) *ℤ pos k)))) ≤ℤ (to *ℤ pos (q * u))
      over t q u d z k w g p n v from to same period_is value_is met =
          let many : q * u ≡ d * z = omega (arith, ints) in
          let met_plain : up from + t * up w + up g + down to + k * down p
          ≤ down from + t * down w + down g + up to + k * up p = omega (arith, ints) in
          let period_plain : q * up p + t * down n ≡ q * down p + t * up n = omega (arith, ints) in
          let value_plain : d * up g + t * down v ≡ d * down g + t * up v = omega (arith, ints) in
          let spared = v *ℤ pos z in
          let spared_plain : up spared + z * down v ≡ down spared + z * up v =
          omega (arith, ints) in
          let number = n *ℤ pos u in
          let number_plain : up number + u * down n ≡ down number + u * up n =
          omega (arith, ints) in
          let gain = ((pos (q * u) *ℤ w) +ℤ spared) -ℤ (number *ℤ pos k) in
          let gain_plain : up gain + q * u * down w + down spared + k * up number
          ≡ down gain + q * u * up w + up spared + k * down number = omega (arith, ints) in
          omega (
            arith,
            ints,
            mul-le-mul_left (q * u) met_plain,
            ap (λ i. u * k * i) period_plain,
            ap (λ i. z * i) value_plain,
            ap (λ i. up g * i) many,
            ap (λ i. down g * i) many,
            ap (λ i. t * i) spared_plain,
            ap (λ i. t * k * i) number_plain,
            ap (λ i. t * i) gain_plain,
          )

      each : SatisfiesGains constraints gains 1
          (λ register. floor (can.arrival register *ℤ pos (q * u)) can.scale)
      each place default within =
          let it : Constraint = get_or constraints place default in
          subst (λ gain. (floor (can.arrival it.tail *ℤ pos (q * u)) can.scale
          +ℤ (pos 1 *ℤ gain)) ≤ℤ floor (can.arrival it.head *ℤ pos (q * u)) can.scale)
          (sym (gain_is it))
          (floor_keeps (can.arrival it.head *ℤ pos (q * u)) (can.arrival it.tail *ℤ pos (q * u))
          (((pos (q * u) *ℤ it.weight) +ℤ (value.num *ℤ pos z))
          -ℤ ((period.num *ℤ pos u) *ℤ pos (count_of it))) can.scale can.some
          (over can.scale q u d z (count_of it) it.weight can.margin can.number period.num
          value.num (can.arrival it.tail) (can.arrival it.head) same_multiple
          (rw (den_is period) can.number_is) (rw (den_is value) can.margin_is)
          (can.spares place default within)))

-- the numbers of the gains are small
small_over : (q u z d : ℕ) (p v : ℤ) → 1 ≤ q → 1 ≤ u → q ≤ 10000 → d ≤ 40970000 → u ≤ d → z ≤ q
    → pos 0 ≤ℤ p → p <ℤ pos (10 ^ 15) → nat_abs v ≤ 10 ^ 19
    → (1 ≤ q * u) × (q * u ≤ 4097 * 10 ^ 8) × IsBelow (2 ^ 78) (p *ℤ pos u)
    × IsBelow (2 ^ 78) (v *ℤ pos z)
small_over q u z d (pos p) v some u_some few few_d u_low z_low from_zero short small =
    let p_low : p ≤ 999999999999999 = omega (arith, ints) in
    let u_few : u ≤ 40970000 = omega arith in (
      omega (arith, mul-le-mul_left q u_some),
      omega (arith, mul-le q u 10000 40970000 few u_few),
      record {
        above = omega (arith, ints);
        below = omega (arith, ints, mul-le p u 999999999999999 40970000 p_low u_few);
      },
      product v small (omega arith),
    )
  where
    product : (v : ℤ) → nat_abs v ≤ 10 ^ 19 → z ≤ 10000 → IsBelow (2 ^ 78) (v *ℤ pos z)
    product (pos v) low z_low =
        let both = mul-le v z (10 ^ 19) 10000 low z_low in
        record { above = omega (arith, ints); below = omega (arith, ints) }
    product (negsuc v) low z_low =
        let both = mul-le (suc v) z (10 ^ 19) 10000 low z_low in
        record { above = omega (arith, ints); below = omega (arith, ints) }
small_over q u z d (negsuc p) v some u_some few few_d u_low z_low from_zero short small =
    absurd (omega (arith, ints))

-- the parts that the gains are made of, and how small they are
pub record AreSmallParts (period value share : Fraction) : Type 0 where
  pub value_num : IsBelow (2 ^ 64) value.num
  pub period_num : IsBelow (2 ^ 64) period.num
  pub period_den : IsBelow (2 ^ 64) period.den
  pub share_num : IsBelow (2 ^ 40) share.num
  pub share_den : IsBelow (2 ^ 40) share.den
  pub some : pos 1 ≤ℤ (period.den *ℤ share.den)
  pub fine : (period.den *ℤ share.den) ≤ℤ pos (4097 * 10 ^ 8)
  pub setup : IsBelow (2 ^ 78) (period.num *ℤ share.den)
  pub spared : IsBelow (2 ^ 78) (value.num *ℤ share.num)

-- they are so
pub small_parts : (period value share : Fraction) → IsMarginPeriod period → IsSmallMargin value
    → IsShare period value share → AreSmallParts period value share
small_parts period value share range small is =
    let q = nat_abs period.den in
    let d = nat_abs value.den in
    let u = nat_abs share.den in
    let z = nat_abs share.num in
    let q_few : q ≤ 10000 = low q period.den 10000 (den_is period) range.fine in
    let d_few : d ≤ 40970000 = low d value.den 40970000 (den_is value) small.fine in
    let u_low : u ≤ d = within u d (subst (λ w. w ≤ℤ pos d) (sym (den_is share))
    (subst (λ w. share.den ≤ℤ w) (sym (den_is value)) is.den)) in
    let z_is : pos z ≡ share.num = size_same share.num (share_some share.num d q u
    (den_some value) (ap (λ w. share.num *ℤ w) (den_is value) ∙ is.same
    ∙ sym (ap (λ w. w *ℤ pos u) (den_is period) ∙ ap (λ w. period.den *ℤ w) (den_is share)))) in
    let all = small_over q u z d period.num value.num (den_some period) (den_some share) q_few
    d_few u_low is.num range.from_zero range.short small.small in
    let multiple : period.den *ℤ share.den ≡ pos (q * u) =
    sym (ap (λ w. w *ℤ pos u) (den_is period) ∙ ap (λ w. period.den *ℤ w) (den_is share))
    ∙ pos-*ℤ-pos q u in
    record {
      value_num = sized value.num small.small;
      period_num = between period.num range.from_zero range.short;
      period_den = subst (IsBelow (2 ^ 64)) (den_is period) (few q (omega arith));
      share_num = subst (IsBelow (2 ^ 40)) z_is (few_more z (omega (arith, is.num)));
      share_den = subst (IsBelow (2 ^ 40)) (den_is share) (few_more u (omega arith));
      some = subst (λ w. pos 1 ≤ℤ w) (sym multiple) (as_some (q * u) all.0);
      fine = subst (λ w. w ≤ℤ pos (4097 * 10 ^ 8)) (sym multiple) (as_fine (q * u) all.1);
      setup = subst (λ w. IsBelow (2 ^ 78) (period.num *ℤ w)) (den_is share) all.2;
      spared = subst (λ w. IsBelow (2 ^ 78) (value.num *ℤ w)) z_is all.3;
    }
  where
    low : (n : ℕ) (z : ℤ) (bound : ℕ) → pos n ≡ z → z ≤ℤ pos bound → n ≤ bound
    low n z bound same within = omega (arith, ints)

    within : (a b : ℕ) → pos a ≤ℤ pos b → a ≤ b
    within a b below = omega (arith, ints)

    sized : (v : ℤ) → nat_abs v ≤ 10 ^ 19 → IsBelow (2 ^ 64) v
    sized (pos v) few = record { above = omega (arith, ints); below = omega (arith, ints) }
    sized (negsuc v) few = record { above = omega (arith, ints); below = omega (arith, ints) }

    between : (p : ℤ) → pos 0 ≤ℤ p → p <ℤ pos (10 ^ 15) → IsBelow (2 ^ 64) p
    between p above below = record { above = omega (arith, ints); below = omega (arith, ints) }

    few : (n : ℕ) → n ≤ 40970000 → IsBelow (2 ^ 64) (pos n)
    few n low = record { above = omega (arith, ints); below = omega (arith, ints) }

    few_more : (n : ℕ) → n ≤ 40970000 → IsBelow (2 ^ 40) (pos n)
    few_more n low = record { above = omega (arith, ints); below = omega (arith, ints) }

    as_some : (n : ℕ) → 1 ≤ n → pos 1 ≤ℤ pos n
    as_some n some = omega (arith, ints)

    as_fine : (n : ℕ) → n ≤ 4097 * 10 ^ 8 → pos n ≤ℤ pos (4097 * 10 ^ 8)
    as_fine n fine = omega (arith, ints)
