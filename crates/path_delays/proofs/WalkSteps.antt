-- A walk that takes the gates by rank and hands their sums to their readers, one step after the
-- other.
use Rattle.path_delays.proofs.Vocabulary.{◌≡◌, ◌≢◌, ◌+◌, ◌-◌, ◌<◌, ◌≤◌, ◌==◌, ◌&&◌, not, ℕ, suc, Bool, true, false, List, [], ◌∷◌, ◌++◌, length, get_or, Contains, Option, Some, None, inl, inr, ◌⊎◌, refl, sym, ◌∙◌, ap, subst, arith, append-nil, append_assoc, IsSome, option_and_then, option_map, cases_eq, cases_lt, eqb-true, eq-eqb, ne_eqb, and_parts, or_cases, or_left, or_right, true≢false, Contains-push_cases, same_Some, get_or_from_slice_get, Circuit, Tech, IsGate, Reads, group_of, IsGate-from_Reads, gate_within, Lanes, Sums, Network, Reach, IsJoinedAt, gate_sums_at, AllBounded, lane_of, AreAround, AreBounded, either_sums, joined_sums, some_sums, sums_through, IsLowestTaken, IsNetworkOf, limit_at, limit_of, most_at, rank_at, lane_at, lanes_at, sums_at, waits_at, HasReachRoom, IsHanded, AreHanded, IsHandedOn, AllBelow, AllBelowBut, IsDue, IsSpread, StartsIn}
use Rattle.path_delays.proofs.CarryLemmas.{IsHandedBy, carried_joined, carried_same, shown_passed}
use Rattle.path_delays.proofs.SumLemmas.{around_itself}
use Rattle.path_delays.proofs.LaneLemmas.{bounded_higher, bounded_joined, bounded_through, some_joined, some_mapped, some_through, lanes_there}
use Rattle.path_delays.proofs.NetworkDelays.{delay_is, delay_within, limit_more, limit_within, same_rank}
use Rattle.path_delays.proofs.Rooms.{limit_rises, rank_within}

module _ (circuit : Circuit) (tech : Tech) (network : Network)
    (is : IsNetworkOf circuit tech network) where
  -- the gate of the lowest rank that waits
  pub record IsNextGate (reach : Reach) (next gate : ℕ) : Type 0 where
    pub rank : rank_at network gate ≡ next
    pub inside : gate < length circuit.signals
    pub reached : IsSome (lanes_at reach gate)

  -- a rank that waits stands in the order
  pub next_within : (reach : Reach) (rank next : ℕ) → IsDue network reach rank next
      → next ≤ length network.order.items
  next_within reach rank next due =
      omega (arith, rank_within circuit tech network is due.gate, due.here)

  -- and its gate is found there
  pub next_gate : (reach : Reach) (rank next gate : ℕ) → 1 ≤ rank → IsDue network reach rank next
      → gate ≡ get_or network.order.items (next - 1) gate → IsNextGate reach next gate
  next_gate reach rank next gate counted due read =
      grind (arith, get_or_from_slice_get, gate_within)

module _ (circuit : Circuit) (tech : Tech) (network : Network)
    (is : IsNetworkOf circuit tech network) (registers : List ℕ)
    (Begun : ℕ → ℕ → Sums → Type 0) where
  abbrev Starts : ℕ → ℕ → Sums → Type 0
  Starts = StartsIn circuit tech registers

  abbrev Spread : (ℕ → ℕ → Type 0) → ℕ → Reach → Type 0
  Spread = IsSpread circuit tech network registers Begun

  abbrev delay : ℕ → Sums
  delay = gate_sums_at circuit tech

  abbrev limit : ℕ → ℕ
  limit number = limit_at network (rank_at network number)

  -- what stands in the lanes is bounded
  pub all_bounded : (reach : Reach) (rank : ℕ) (Handed : ℕ → ℕ → Type 0)
      → HasReachRoom network reach → Spread Handed rank reach → (signal : ℕ) (given : Lanes)
      → lanes_at reach signal ≡ Some given → AllBounded (limit_of reach) given
  all_bounded reach rank Handed room spread signal given here lane low =
      bounded_higher (limit signal) (limit_of reach) (lane_of given lane)
      (omega (arith, limit_rises network (rank_at network signal), room.total))
      (spread.limited lane signal (lane_of given lane) low
      (ap (option_map (λ (lanes : Lanes). lane_of lanes lane)) here))

  -- a gate is handed what stands at a signal that it reads
  module _ (old new : Reach) (given : Lanes) (gate rank pending : ℕ) (gates : List ℕ)
      (hands : IsHanded network given gate old new) (next : rank_at network pending + 1 ≡ rank)
      (reads : Reads circuit.signals gate pending) (held : lanes_at old pending ≡ Some given)
      (so_far : Spread (AllBelowBut network rank pending gates) rank
      old) where
    is_one : IsGate circuit.signals gate
    is_one = IsGate-from_Reads circuit.signals gate pending reads

    higher : rank ≤ rank_at network gate
    higher = omega (arith, is.ranks.rising gate pending reads)

    -- the sums that are handed, after the gate, and what stands there then
    abbrev through : ℕ → Sums
    through lane = sums_through (lane_of given lane) (delay gate)

    abbrev joined : ℕ → Sums
    joined lane = joined_sums (lane_at old lane gate) (through lane)

    at_gate : (lane : ℕ) → lane < 16 → lane_at new lane gate ≡ Some (joined lane)
    at_gate lane low = grind (arith, delay_is)

    given_at : (lane : ℕ) → lane_at old lane pending ≡ Some (lane_of given lane)
    given_at lane = ap (option_map (λ (lanes : Lanes). lane_of lanes lane)) held

    -- what stands elsewhere stays
    others_same : (lane signal : ℕ) → signal ≢ gate
        → lane_at new lane signal ≡ lane_at old lane signal
    others_same lane signal differs =
        ap (option_map (λ (lanes : Lanes). lane_of lanes lane)) (hands.others signal differs)

    -- the sums are bounded, also after the gate
    given_bounded : (lane : ℕ) → lane < 16 → AreBounded (limit pending) (lane_of given lane)
    given_bounded lane low = so_far.limited lane pending (lane_of given lane) low (given_at lane)

    through_bounded : (lane : ℕ) → lane < 16 → AreBounded (limit gate) (through lane)
    through_bounded lane low =
        bounded_through (limit pending) (most_at network gate) (limit gate)
        (lane_of given lane) (delay gate) (limit_more circuit tech network is pending gate reads)
        (given_bounded lane low) (delay_within circuit tech network is gate is_one)

    limited : (lane signal : ℕ) (sums : Sums) → lane < 16 → lane_at new lane signal ≡ Some sums
        → AreBounded (limit signal) sums
    limited lane signal sums low here = elim (cases_eq signal gate) [
      | inl same ↦
          let equal : Some (joined lane) ≡ Some sums =
          sym (at_gate lane low) ∙ (ap (lane_at new lane) (sym same) ∙ here) in
          subst (λ n. AreBounded (limit n) sums) (sym same)
          (subst (AreBounded (limit gate)) (same_Some (joined lane) sums equal)
          (bounded_joined (limit gate) (lane_at old lane gate) (through lane)
          (λ entry. so_far.limited lane gate entry low) (through_bounded lane low)))
      | inr other ↦
          so_far.limited lane signal sums low (sym (others_same lane signal other) ∙ here)
    ]

    -- in each lane the gate gets what comes from there
    abbrev found : ℕ → Option Sums
    found lane = option_map (λ (sums : Sums). sums_through sums (delay gate))
        (sums_at old lane pending)

    joined_at : (lane : ℕ) → lane < 16
        → IsJoinedAt gate (found lane) (sums_at old lane) (sums_at new lane)
    joined_at lane low = record {
      here = ap (option_and_then some_sums) (at_gate lane low)
          ∙ (some_joined (limit gate) (lane_at old lane gate) (through lane)
          (limit_within circuit tech network is (rank_at network gate))
          (λ entry. so_far.limited lane gate entry low) (through_bounded lane low)
          ∙ ap (either_sums (sums_at old lane gate))
          (some_through (limit pending) (most_at network gate) (limit gate)
          (lane_of given lane) (delay gate) (limit_more circuit tech network is pending gate reads)
          (limit_within circuit tech network is (rank_at network gate)) (given_bounded lane low)
          (delay_within circuit tech network is gate is_one)
          ∙ ap (option_map (λ (sums : Sums). sums_through sums (delay gate)))
          (sym (ap (option_and_then some_sums) (given_at lane)))));
      others = λ other differs. ap (option_and_then some_sums) (others_same lane other differs);
    }

    -- no signal below the rank is the gate, and the gate is the last that is handed anything
    handed_by : (lane read other : ℕ)
        → AllBelowBut network rank pending (gates ++ gate ∷ []) read other
        → Reads circuit.signals other read
        → IsHandedBy circuit.signals delay (AllBelowBut network rank pending gates) gate
        (found lane) (sums_at old lane) read other
    handed_by lane read other (below, listed) reading = record {
      apart = λ same. absurd (omega (arith, higher, below, ap (rank_at network) same));
      counts = elim (cases_eq read pending) [
        | inl same ↦ elim (Contains-push_cases gates gate other (listed same)) [
          | inl earlier ↦ inl (below, λ e. earlier)
          | inr last ↦ inr (
            sym last,
            λ sums here. around sums other last (ap (sums_at old lane) (sym same) ∙ here),
          )
        ]
        | inr elsewhere ↦ inl (below, λ e. absurd (elsewhere e))
      ];
    }
      where
        around : (sums : Sums) (other : ℕ) → gate ≡ other → sums_at old lane pending ≡ Some sums
            → AreAround (found lane) (sums_through sums (delay other))
        around sums other last here =
            subst (λ n. AreAround (found lane) (sums_through sums (delay n))) last
            (subst (λ o. AreAround (option_map (λ (s : Sums). sums_through s (delay gate)) o)
            (sums_through sums (delay gate))) (sym here)
            (around_itself (sums_through sums (delay gate))))

    -- the gate is reached
    there_now : IsSome (lanes_at new gate)
    there_now = some_mapped (λ lanes. lane_of lanes 0) (lanes_at new gate) (joined 0)
        (at_gate 0 (omega arith))

    -- what was reached is reached
    still_there : (signal : ℕ) → IsSome (lanes_at old signal) → IsSome (lanes_at new signal)
    still_there signal reached = elim (cases_eq signal gate) [
      | inl same ↦ subst (λ n. IsSome (lanes_at new n)) (sym same) there_now
      | inr other ↦
          subst (λ (o : Option Lanes). IsSome o) (sym (hands.others signal other)) reached
    ]

    -- the rank of a gate that is reached first waits
    waits_first : lanes_at old gate ≡ None → waits_at new (rank_at network gate) ≡ true
    waits_first first = grind (arith, or_left, eq-eqb)

    -- what waited waits
    still_waits : (number : ℕ) → waits_at old number ≡ true → waits_at new number ≡ true
    still_waits number waits = grind (arith, or_right)

    -- what waits waited, or is the gate's rank
    waited : (number : ℕ) → waits_at new number ≡ true
        → (number ≡ rank_at network gate) ⊎ (waits_at old number ≡ true)
    waited number waits = grind (arith, or_cases, eqb-true, and_parts)

    gate_waits : (o : Option Lanes) → lanes_at old gate ≡ o
        → waits_at new (rank_at network gate) ≡ true
    gate_waits None first = waits_first first
    gate_waits (Some lanes) before = still_waits (rank_at network gate)
        (so_far.waits gate (subst (λ (o : Option Lanes). IsSome o) (sym before) refl) higher)

    -- so one reader more is handed what it reads
    IsSpread-handed : Spread
        (AllBelowBut network rank pending (gates ++ gate ∷ [])) rank new
        × (lanes_at new pending ≡ Some given)
    IsSpread-handed = (
      record {
        limited = limited;
        carried = λ lane low. carried_joined circuit.signals delay (Starts lane) (Begun lane)
            (Begun lane) (AllBelowBut network rank pending gates)
            (AllBelowBut network rank pending (gates ++ gate ∷ [])) gate (found lane)
            (sums_at old lane) (sums_at new lane) (joined_at lane low)
            (λ one start starts begun. inl begun)
            (shown_passed circuit.signals delay (Starts lane) pending gate
            (sums_at old lane pending) reads ((so_far.carried lane low).shown pending))
            (handed_by lane) (so_far.carried lane low);
        waits = λ signal reached later. elim (cases_eq signal gate) [
          | inl same ↦ subst (λ n. waits_at new (rank_at network n) ≡ true) (sym same)
              (gate_waits (lanes_at old gate) refl)
          | inr other ↦ still_waits (rank_at network signal) (so_far.waits signal
              (subst (λ (o : Option Lanes). IsSome o) (hands.others signal other) reached) later)
        ];
        due = λ other waits. elim (waited other waits) [
          | inl same ↦ record {
            after = omega (arith, higher);
            gate = gate;
            here = sym same;
            reached = there_now;
          }
          | inr before ↦
              let was = so_far.due other before in
              record {
                after = was.after;
                gate = was.gate;
                here = was.here;
                reached = still_there was.gate was.reached;
              }
        ];
      },
      hands.others pending (λ same. absurd (omega (arith, higher, ap (rank_at network) same)))
          ∙ held,
    )

  -- all readers, one after the other
  all_handed : (old new : Reach) (given : Lanes) (rank pending : ℕ) (gates more : List ℕ)
      → rank_at network pending + 1 ≡ rank
      → ((gate : ℕ) → Contains more gate → Reads circuit.signals gate pending)
      → lanes_at old pending ≡ Some given → Spread (AllBelowBut network rank pending gates) rank old
      → AreHanded network given more old new
      → Spread (AllBelowBut network rank pending (gates ++ more)) rank
      new
  all_handed old new given rank pending gates [] next reads held so_far same =
      grind (arith, append-nil)
  all_handed old new given rank pending gates (gate ∷ more) next reads held so_far
      (between, first, rest) =
      let here = reads gate (0, omega arith, refl) in
      let step =
      IsSpread-handed old between given gate rank pending gates first next here held so_far in
      subst (λ list. Spread (AllBelowBut network rank pending list)
      rank new) (append_assoc gates (gate ∷ []) more)
      (all_handed between new given rank pending (gates ++ gate ∷ []) more next
      (λ other (k, inside, here). reads other (suc k, omega arith, here)) step.1 step.0 rest)

  -- a signal that has handed its sums to all its readers is done
  pub IsSpread-on : (old new : Reach) (rank pending : ℕ) (given : Lanes)
      → rank_at network pending + 1 ≡ rank → pending < length circuit.signals
      → lanes_at old pending ≡ Some given → Spread (AllBelowBut network rank pending []) rank old
      → IsHandedOn network pending old new → Spread (AllBelow network rank) rank new
  IsSpread-on old new rank pending given next inside held so_far handed_on =
      let readers = group_of network.readers pending in
      let all = all_handed old new given rank pending [] readers next
      (λ gate listed. is.readers.each pending gate inside listed) held so_far
      (handed_on given held) in
      record {
        limited = all.limited;
        carried = λ lane low. carried_same circuit.signals delay (Starts lane) (Begun lane)
            (Begun lane) (AllBelowBut network rank pending readers) (AllBelow network rank)
            (sums_at new lane) (sums_at new lane) (λ signal start starts begun. begun)
            (λ read gate sums here below reads. (
              below,
              λ same. subst (λ n. Contains (group_of network.readers n) gate) same
                  (is.readers.all read gate reads),
            )) (λ signal. refl) (all.carried lane low);
        waits = all.waits;
        due = all.due;
      }

  -- the lowest rank that waits is taken
  pub IsSpread-taken : (old new : Reach) (rank next gate : ℕ) → 1 ≤ rank → rank ≤ next
      → IsLowestTaken old.waiting.words.items new.waiting.words.items next
      → ((signal : ℕ) → lanes_at new signal ≡ lanes_at old signal) → rank_at network gate ≡ next
      → Spread (AllBelow network rank) rank old
      → Spread (AllBelowBut network (next + 1) gate []) (next + 1) new
  IsSpread-taken old new rank next gate counted after taken same rank_is so_far = record {
    limited = λ lane signal sums low here.
        so_far.limited lane signal sums low (sym (lane_same lane signal) ∙ here);
    carried = λ lane low. carried_same circuit.signals delay (Starts lane) (Begun lane)
        (Begun lane) (AllBelow network rank) (AllBelowBut network (next + 1) gate [])
        (sums_at old lane) (sums_at new lane) (λ signal start starts begun. begun)
        (λ read other sums here (below, listed) reads. lower lane read other sums below listed here)
        (λ signal. ap (option_and_then some_sums) (lane_same lane signal))
        (so_far.carried lane low);
    waits = λ signal reached later.
        let waited = so_far.waits signal
        (subst (λ (o : Option Lanes). IsSome o) (same signal) reached) (omega arith) in
        let differs : rank_at network signal ≢ next = λ e. absurd (omega arith) in
        taken.each (rank_at network signal)
        ∙ and_both (waits_at old (rank_at network signal)) (rank_at network signal == next) waited
        (ne_eqb (rank_at network signal) next differs);
    due = λ other waits.
        let parts =
        and_parts (waits_at old other) (not (other == next)) (sym (taken.each other) ∙ waits) in
        let was = so_far.due other parts.0 in
        let differs : other ≢ next =
        λ e. absurd (true≢false (sym parts.1 ∙ ap not (eq-eqb other next e))) in
        let higher : next < other = omega (arith, taken.lowest other parts.0) in
        record {
          after = omega arith;
          gate = was.gate;
          here = was.here;
          reached = subst (λ (o : Option Lanes). IsSome o) (sym (same was.gate)) was.reached;
        };
  }
    where
      lane_same : (lane signal : ℕ) → lane_at new lane signal ≡ lane_at old lane signal
      lane_same lane signal = ap (option_map (λ (lanes : Lanes). lane_of lanes lane)) (same signal)

      and_both : (a b : Bool) → a ≡ true → b ≡ false → (a && not b) ≡ true
      and_both a b first second = rw (first, second) refl

      none_listed : (other : ℕ) → Contains [] other → ⊥
      none_listed other (k, inside, here) = absurd (omega arith)

      lower : (lane read other : ℕ) (sums : Sums) → rank_at network read < next + 1
          → (read ≡ gate → Contains [] other) → sums_at old lane read ≡ Some sums
          → rank_at network read < rank
      lower lane read other sums below listed here = elim (cases_lt (rank_at network read) rank) [
        | inl before ↦ before
        | inr later ↦
            let reached = lanes_there (lanes_at old read) lane sums here in
            let least : next ≤ rank_at network read =
            taken.lowest (rank_at network read) (so_far.waits read reached later) in
            absurd (none_listed other (listed (same_rank circuit tech network is read gate
            (omega arith) (omega arith))))
      ]
