-- Room for a walk over a network.
use Rattle.path_delays.proofs.Vocabulary.{◌≡◌, ◌≢◌, ◌+◌, ◌*◌, ◌^◌, ◌<◌, ◌≤◌, ℕ, zero, suc, ℤ, ◌-ℤ◌, ◌≤ℤ◌, List, [], ◌∷◌, length, map, take, get_or, All, AllPairs, refl, sym, ◌∙◌, ap, subst, arith, if◌then◌else◌, int_max, slice_index_or, sum_by, cases_lt, length-map, take_all, get_or-le-sum_by, sum_by_more, sum_by-cons, sum_by-le-sum_by, sum_by-take-le, sum-map, All-map, Contains-get_or, slice_get_within, ints, Signal, Circuit, Tech, group_of, Sums, Network, Reach, AreWithin, delay_limit, IsNetworkOf, gate_sums, narrow_limit, rows_of, HasReachRoom, limit_at, limit_of, most_at, most_of, no_delay, rank_at}
use Rattle.std.specs.Prelude.{true, false, Bool, pos, ◌+ℤ◌}
use Rattle.path_delays.proofs.DelayLemmas.{gate_within, weight_of, weights_within}
use Rattle.path_delays.proofs.NetworkLemmas.{distinct_sum-le, reader_within}
use Rattle.path_delays.proofs.SumLemmas.{most_below, most_is, within_most}

-- sums within a limit are within a higher one
pub within_higher : (limit higher : ℕ) (sums : Sums) → limit ≤ higher → AreWithin limit sums
    → AreWithin higher sums
within_higher limit higher sums more within = grind (arith, ints)

-- the limit of a rank is no higher than that of the whole order
pub limit_rises : (network : Network) (rank : ℕ)
    → limit_at network rank ≤ limit_at network (length network.order.items)
limit_rises network rank = grind (arith, sum_by-take-le, take_all)

-- the delays of gates that aren't equal add up to no more than all delays
mosts_once : (delays : List Sums) (order : List ℕ) → AllPairs (λ first second. first ≢ second) order
    → sum_by (λ number. most_of (slice_index_or delays number no_delay)) order
    ≤ sum_by most_of delays
mosts_once delays order once =
    let mosts = map most_of delays in
    omega (
      arith,
      sum_by-le-sum_by (λ number. most_of (slice_index_or delays number no_delay))
          (λ number. get_or mosts number 0) order
          (λ number. omega (arith, most_there delays number)),
      distinct_sum-le mosts order once,
      sum-map most_of delays,
    )
  where
    most_there : (delays : List Sums) (number : ℕ)
        → get_or (map most_of delays) number 0 ≡ most_of (slice_index_or delays number no_delay)
    most_there [] number = refl
    most_there (delay ∷ delays) zero = refl
    most_there (delay ∷ delays) (suc number) = most_there delays number

-- the delays of signals add up to no more than their weights
mosts_weigh : (tech : Tech) (signals : List Signal)
    → sum_by most_of (map (gate_sums tech) signals) ≤ sum_by weight_of signals
mosts_weigh tech [] = omega arith
mosts_weigh tech (signal ∷ signals) = omega (
  arith,
  sum_by-cons most_of (gate_sums tech signal) (map (gate_sums tech) signals),
  sum_by-cons weight_of signal signals,
  most_below (weight_of signal) (gate_sums tech signal) (gate_within tech signal),
  mosts_weigh tech signals,
)

-- so much is left for further delays where all are short
pub record IsLeftAfter (delays : List Sums) (left : ℤ) : Type 0 where
  pub above : pos 0 ≤ℤ left
  pub sum : (pos (sum_by most_of delays) +ℤ left) ≡ pos 535870911

-- one delay more leaves less
pub IsLeftAfter-more : (delays : List Sums) (passed : ℕ) (left most : ℤ) (other : Sums)
    → passed < length delays → AreWithin delay_limit (get_or delays passed other)
    → most ≡ int_max (get_or delays passed other).least (get_or delays passed other).greatest
    → most ≤ℤ left → IsLeftAfter (take passed delays) left
    → IsLeftAfter (take (passed + 1) delays) (left -ℤ most)
IsLeftAfter-more delays passed left most other inside within read room so_far =
    grind (arith, ints, sum_by_more, most_is)

module _ (circuit : Circuit) (tech : Tech) (network : Network)
    (is : IsNetworkOf circuit tech network) where
  -- no rank is beyond the order
  pub rank_within : (number : ℕ) → rank_at network number ≤ length network.order.items
  rank_within number = grind (arith, cases_lt, slice_get_within)

  -- the readers of a signal are signals
  readers_within : (signal : ℕ) → signal < length circuit.signals
      → All (λ gate. gate < length circuit.signals) (group_of network.readers signal)
  readers_within signal inside = λ i d within.
      reader_within circuit.signals (get_or (group_of network.readers signal) i d) signal
      (is.readers.each signal (get_or (group_of network.readers signal) i d) inside
      (Contains-get_or (group_of network.readers signal) i d within))

  -- no delay is beyond the limit
  pub delays_within : All (AreWithin delay_limit) network.delays.items
  delays_within = subst (All (AreWithin delay_limit)) (sym is.delays)
      (All-map (AreWithin delay_limit) (gate_sums tech) circuit.signals (λ i d inside.
      within_higher (weight_of (get_or circuit.signals i d)) delay_limit
      (gate_sums tech (get_or circuit.signals i d))
      (omega (arith, get_or-le-sum_by weight_of circuit.signals i d inside, weights_within circuit))
      (gate_within tech (get_or circuit.signals i d))))

  -- no gate reads itself
  readers_apart : (signal : ℕ) → signal < length circuit.signals
      → All (λ gate. gate ≢ signal) (group_of network.readers signal)
  readers_apart signal inside = λ i d within same.
      let gate = get_or (group_of network.readers signal) i d in
      let reads = is.readers.each signal gate inside
      (Contains-get_or (group_of network.readers signal) i d within) in
      absurd (omega (
        arith,
        is.ranks.rising gate signal reads,
        ap (rank_at network) same,
      ))

  -- no path through all gates takes more than all delays
  pub limit_below : limit_at network (length network.order.items)
      ≤ 1000000 + sum_by most_of network.delays.items
  limit_below = omega (
    arith,
    ap (sum_by (most_at network))
        (take_all (length network.order.items) network.order.items (omega arith)),
    mosts_once network.delays.items network.order.items is.once,
  )

  -- and all delays are no more than the limit of all circuits
  pub total_within : 1000000 + sum_by most_of network.delays.items ≤ delay_limit
  total_within = grind (arith, mosts_weigh, weights_within)

  -- each delay is within what all add up to
  delays_below : (limit : ℕ) → sum_by most_of network.delays.items ≤ limit
      → All (AreWithin limit) network.delays.items
  delays_below limit total i d inside =
      let delay = get_or network.delays.items i d in
      within_higher (most_of delay) limit delay
      (omega (arith, get_or-le-sum_by most_of network.delays.items i d inside))
      (within_most delay_limit delay (delays_within i d inside))

  -- lanes of either width hold all delays, of 32 bits where all is short
  pub held_by_width : (short : Bool) (limit : ℕ)
      → limit ≡ (if short then narrow_limit else delay_limit)
      → (short ≡ true → 1000000 + sum_by most_of network.delays.items ≤ narrow_limit)
      → (limit ≤ delay_limit) × (1000000 + sum_by most_of network.delays.items ≤ limit)
  held_by_width true limit width held = (omega (arith, width), omega (arith, width, held refl))
  held_by_width false limit width held = (omega (arith, width), omega (arith, width, total_within))

  -- room for as many signals and gates is room for the network, where no path is too long
  pub HasReachRoom-made : (reach : Reach) (gates : ℕ) → length network.order.items ≤ gates
      → length (rows_of reach.lanes) ≡ length circuit.signals
      → length circuit.signals < 64 * length reach.reached.words.items
      → gates < 64 * length reach.waiting.words.items
      → 64 * length reach.waiting.words.items < 2 ^ 32 → limit_of reach ≤ delay_limit
      → 1000000 + sum_by most_of network.delays.items ≤ limit_of reach → HasReachRoom network reach
  HasReachRoom-made reach gates few lanes reached waiting small known total =
      let covers : length circuit.signals ≡ length network.ranks.items = sym is.ranks.covers in
      record {
        starts = is.readers.long ∙ ap (λ n. n + 1) covers;
        readers =
            subst (λ n. (signal : ℕ) → signal < n
            → All (λ gate. gate < n) (group_of network.readers signal)) covers readers_within;
        delays = ap length is.delays ∙ (length-map circuit.signals (gate_sums tech) ∙ covers);
        apart =
            subst (λ n. (signal : ℕ) → signal < n
            → All (λ gate. gate ≢ signal) (group_of network.readers signal)) covers readers_apart;
        small_delays = delays_below (limit_of reach) (omega (arith, total));
        total = omega (arith, limit_below, total);
        known = known;
        lanes = lanes ∙ covers;
        reached = omega arith;
        waiting = λ gate. omega (arith, rank_within gate);
        small = small;
      }
