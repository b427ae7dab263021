-- The delays that a network keeps, and the limits of what they add up to.
use Rattle.path_delays.proofs.Vocabulary.{◌≡◌, ◌+◌, ◌-◌, ◌<◌, ◌≤◌, ℕ, true, pos, IsTrue, List, take, get_or, Some, refl, sym, ◌∙◌, ap, subst, arith, slice_get, sum_by, get_or-map, take-take, sum_by_more, sum_by-take-le, slice_get_within, get_or_from_slice_get, Signal, Circuit, Tech, is_gate, IsGate, Reads, some_and, IsGate-from_Reads, Sums, Network, AreWithin, delay_limit, IsNetworkOf, gate_sums, delay_at, limit_at, most_at, rank_at, gate_sums_at}
use Rattle.path_delays.proofs.DelayLemmas.{gate_within, weight_of}
use Rattle.path_delays.proofs.Rooms.{limit_below, limit_rises, total_within}
use Rattle.path_delays.proofs.SumLemmas.{within_most}

-- a gate's delays are those of its number
pub gate_sums_are : (circuit : Circuit) (tech : Tech) (gate : ℕ) (signal : Signal)
    → slice_get circuit.signals gate ≡ Some signal → is_gate signal.kind ≡ true
    → gate_sums tech signal ≡ gate_sums_at circuit tech gate
gate_sums_are circuit tech gate signal here is_one = rw (here, is_one) refl

module _ (circuit : Circuit) (tech : Tech) (network : Network)
    (is : IsNetworkOf circuit tech network) where
  -- the signal of a gate
  signal_of : (gate : ℕ) → IsGate circuit.signals gate
      → (signal : Signal) × (slice_get circuit.signals gate ≡ Some signal)
      × (is_gate signal.kind ≡ true)
  signal_of gate is_one =
      some_and (slice_get circuit.signals gate) (λ signal. IsTrue (is_gate signal.kind)) is_one

  -- the network keeps the table's delays
  kept_delay : (gate : ℕ) (signal : Signal) → slice_get circuit.signals gate ≡ Some signal
      → delay_at network gate ≡ gate_sums tech signal
  kept_delay gate signal here =
      let none : Sums = record { least = pos 0; greatest = pos 0 } in
      ap (λ (delays : List Sums). get_or delays gate none) is.delays
      ∙ (get_or-map (gate_sums tech) circuit.signals gate signal none
      (slice_get_within circuit.signals gate signal here)
      ∙ ap (gate_sums tech) (get_or_from_slice_get circuit.signals gate signal signal here))

  pub delay_is : (gate : ℕ) → IsGate circuit.signals gate
      → delay_at network gate ≡ gate_sums_at circuit tech gate
  delay_is gate is_one =
      let found = signal_of gate is_one in
      kept_delay gate found.0 found.1
      ∙ gate_sums_are circuit tech gate found.0 found.1 found.2

  -- and no more than the greater of both
  pub delay_within : (gate : ℕ) → IsGate circuit.signals gate
      → AreWithin (most_at network gate) (gate_sums_at circuit tech gate)
  delay_within gate is_one =
      let found = signal_of gate is_one in
      let kept = kept_delay gate found.0 found.1 in
      subst (AreWithin (most_at network gate)) (delay_is gate is_one)
      (within_most (weight_of found.0) (delay_at network gate)
      (subst (AreWithin (weight_of found.0)) (sym kept) (gate_within tech found.0)))

  -- the limit rises by a gate's delay from what it reads to the gate
  pub limit_more : (read gate : ℕ) → Reads circuit.signals gate read
      → limit_at network (rank_at network read) + most_at network gate
      ≤ limit_at network (rank_at network gate)
  limit_more read gate reads =
      let placed = is.ranks.gates gate (IsGate-from_Reads circuit.signals gate read reads) in
      let place = rank_at network gate - 1 in
      let most = most_at network in
      let order = network.order.items in
      let next : rank_at network gate ≡ place + 1 = omega (arith, placed.counted) in
      let lower : rank_at network read ≤ place = omega (arith, is.ranks.rising gate read reads) in
      let whole = ap (λ n. sum_by most (take n order)) next in
      let more =
      sum_by_more most order place gate (slice_get_within order place gate placed.here) in
      let last = ap most (get_or_from_slice_get order place gate gate placed.here) in
      let prefix = ap (sum_by most) (take-take (rank_at network read) place order lower) in
      omega (
        arith,
        whole,
        more,
        last,
        prefix,
        sum_by-take-le most (take place order) (rank_at network read),
      )

  -- no limit is beyond the limit of all delays
  pub limit_within : (rank : ℕ) → limit_at network rank ≤ delay_limit
  limit_within rank = grind (arith, limit_rises, limit_below, total_within)

  -- two gates of one rank are the same
  pub same_rank : (first second : ℕ) → 0 < rank_at network first
      → rank_at network first ≡ rank_at network second → first ≡ second
  same_rank first second counted same = grind (arith)
