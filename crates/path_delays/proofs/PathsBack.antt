-- The walk back from the end of a path, each time to the signal that was found furthest.
use Rattle.path_delays.proofs.Vocabulary.{ℕ, ◌≡◌, ◌<◌, ◌≤◌, ◌⊎◌, Bool, List, [], ◌∷◌, ◌++◌, length, reverse, Option, Some, None, Contains, refl, sym, ◌∙◌, ap, subst, arith, inl, inr, ◌+ℤ◌, slice_get, ints, reverse-append, same_Some, Signal, Circuit, Tech, register_signal, Reads, Follows, Launches, Captures, Sums, Walk, IsChain, IsReach, rank_at, HasRanksOf, HasReachBetween, sums_to, delay_by, extreme_of, IsNoFurther, IsExtremePath, IsFurthest}
use Rattle.gate_order.proofs.Rings.{follows_joined}
use Rattle.path_delays.proofs.ExtremeDelays.{own_by, gate_by, through_by, delay_is, delay_push, IsReachBy, reach_by, same_extreme, no_further_than, no_further_after}
use Rattle.path_delays.proofs.LaunchLemmas.{launched_at}
use Rattle.path_delays.proofs.NetworkLemmas.{reads_within}
use Rattle.path_delays.proofs.ReachedPairs.{captured_within, chain_of_path}

-- what a register launches reads nothing
launched_no_gate : (circuit : Circuit) (from number read : ℕ) → Launches circuit from number
    → Reads circuit.signals number read → ⊥
launched_no_gate circuit from number read launched reads = grind (arith, launched_at)

-- a chain to a signal is this signal alone, or goes through one that it reads
pub record IsAfter (circuit : Circuit) (first : ℕ) (gates : List ℕ) (last : ℕ) : Type 0 where
  pub read : ℕ
  pub prefix : List ℕ
  pub is : gates ≡ prefix ++ last ∷ []
  pub follows : Follows circuit.signals first prefix read
  pub reads : Reads circuit.signals last read

-- and which of the two it is
pub last_of : (circuit : Circuit) (first : ℕ) (gates : List ℕ) (last : ℕ)
    → Follows circuit.signals first gates last
    → ((gates ≡ []) × (first ≡ last)) ⊎ IsAfter circuit first gates last
last_of circuit first [] last follows = inl (refl, follows)
last_of circuit first (gate ∷ gates) last follows =
    elim (last_of circuit gate gates last follows.1) [
      | inl end ↦
          inr (record {
            read = first;
            prefix = [];
            is = ap (λ g. gate ∷ g) end.0 ∙ ap (λ g. g ∷ []) end.1;
            follows = refl;
            reads = subst (λ g. Reads circuit.signals g first) end.1 follows.0;
          })
      | inr suffix ↦
          inr (record {
            read = suffix.read;
            prefix = gate ∷ suffix.prefix;
            is = ap (λ g. gate ∷ g) suffix.is;
            follows = (follows.0, suffix.follows);
            reads = suffix.reads;
          })
    ]

-- what a register captures is its fan-in
pub captures_furthest : (circuit : Circuit) (to : ℕ) (captured : Signal)
    → register_signal circuit to ≡ Some captured → (walk : Walk) (lane : ℕ) (greatest : Bool)
    (last : ℕ) → IsFurthest walk lane (Contains captured.fan_in) greatest last
    → IsFurthest walk lane (Captures circuit to) greatest last
captures_furthest circuit to captured found walk lane greatest last furthest = grind (arith)

-- and within the circuit
pub captures_within : (circuit : Circuit) (to : ℕ) (captured : Signal)
    → register_signal circuit to ≡ Some captured → (signal : ℕ) → Captures circuit to signal
    → signal < length circuit.signals
captures_within circuit to captured found signal captures = grind (arith, captured_within)

-- from a signal on, the path to the last one, whose sums are those of the signal and what the gates
-- after it add
pub record IsBack (circuit : Circuit) (tech : Tech) (walk : Walk) (lane top : ℕ)
    (greatest : Bool) (last : ℕ) (path : List ℕ) (signal : ℕ) : Type 0 where
  pub rest : List ℕ
  pub is : reverse path ≡ signal ∷ rest
  pub within : signal < length circuit.signals
  pub low : rank_at walk.network signal ≤ top
  pub follows : Follows circuit.signals signal rest last
  pub sums : Sums
  pub here : sums_to walk lane signal ≡ Some sums
  pub end : Sums
  pub end_here : sums_to walk lane last ≡ Some end
  pub total : extreme_of greatest end
      ≡ extreme_of greatest sums +ℤ through_by greatest circuit tech rest

module _ (circuit : Circuit) (tech : Tech) (from to lane : ℕ) (walk : Walk) (greatest : Bool)
    (ranks : HasRanksOf circuit walk) (reach : HasReachBetween circuit tech from to lane walk) where
  -- the walk went up to the signal
  abbrev IsLow : ℕ → Type 0
  IsLow signal = rank_at walk.network signal ≤ reach.top

  -- and to what it reads
  read_low : (signal read : ℕ) → IsLow signal → Reads circuit.signals signal read → IsLow read
  read_low signal read low reads = omega (arith, ranks.rising signal read reads)

  -- what the walk found at a signal are the delays of its chains
  reached : (signal : ℕ) (sums : Sums) → IsLow signal → sums_to walk lane signal ≡ Some sums
      → IsReachBy greatest circuit tech from signal sums
  reached signal sums low here = reach_by greatest circuit tech from signal sums
      (subst (IsReach circuit tech from signal) here (reach.each signal low))

  -- where it found nothing, there is no chain
  unreached : (signal : ℕ) (chain : List ℕ) → IsLow signal → sums_to walk lane signal ≡ None
      → IsChain circuit from signal chain → ⊥
  unreached signal chain low nothing is_chain =
      subst (IsReach circuit tech from signal) nothing (reach.each signal low) chain is_chain

  -- a chain to a signal is no further than what the walk found there
  chain_within : (signal : ℕ) (chain : List ℕ) → IsLow signal → IsChain circuit from signal chain
      → (sums : Sums) × (sums_to walk lane signal ≡ Some sums)
      × IsNoFurther greatest (delay_by greatest circuit tech chain) (extreme_of greatest sums)
  chain_within signal chain low is_chain = at (sums_to walk lane signal) refl
    where
      at : (found : Option Sums) → sums_to walk lane signal ≡ found
          → (sums : Sums) × (sums_to walk lane signal ≡ Some sums)
          × IsNoFurther greatest (delay_by greatest circuit tech chain) (extreme_of greatest sums)
      at None nothing = absurd (unreached signal chain low nothing is_chain)
      at (Some sums) here = (sums, here, (reached signal sums low here).extreme chain is_chain)

  -- a chain with a reader of its end after it is one to the reader
  chain_push : (first : ℕ) (prefix : List ℕ) (read gate : ℕ)
      → IsChain circuit from read (first ∷ prefix) → Reads circuit.signals gate read
      → IsChain circuit from gate (first ∷ prefix ++ gate ∷ [])
  chain_push first prefix read gate is_chain reads = grind (arith, follows_joined)

  -- so the walk found no less at a gate than what it reads and the gate add up to
  reader_within : (signal read : ℕ) (sums read_sums : Sums) → IsLow signal
      → Reads circuit.signals signal read → sums_to walk lane signal ≡ Some sums
      → sums_to walk lane read ≡ Some read_sums → IsNoFurther greatest
      (extreme_of greatest read_sums +ℤ gate_by greatest tech (slice_get circuit.signals signal))
      (extreme_of greatest sums)
  reader_within signal read sums read_sums low reads here read_here =
      let shown = reached read read_sums (read_low signal read low reads) read_here in
      at shown.chain shown.is_chain shown.shown
    where
      at : (chain : List ℕ) → IsChain circuit from read chain
          → delay_by greatest circuit tech chain ≡ extreme_of greatest read_sums
          → IsNoFurther greatest
          (extreme_of greatest read_sums
          +ℤ gate_by greatest tech (slice_get circuit.signals signal)) (extreme_of greatest sums)
      at [] is_chain shown = absurd is_chain
      at (first ∷ prefix) is_chain shown =
          let longer = (reached signal sums low here).extreme (first ∷ prefix ++ signal ∷ [])
          (chain_push first prefix read signal is_chain reads) in
          rw (← shown) (rw (delay_push greatest circuit tech first prefix signal) at longer)

  -- at a gate the walk found what it found at the furthest signal that the gate reads, and the
  -- gate's delay
  furthest_adds : (signal read : ℕ) (sums : Sums) → IsLow signal
      → sums_to walk lane signal ≡ Some sums
      → (furthest : IsFurthest walk lane (Reads circuit.signals signal) greatest read)
      → extreme_of greatest sums ≡ extreme_of greatest furthest.sums
      +ℤ gate_by greatest tech (slice_get circuit.signals signal)
  furthest_adds signal read sums low here furthest =
      let shown = reached signal sums low here in
      same_extreme greatest _ _ (at shown.chain shown.is_chain shown.shown)
      (reader_within signal read sums furthest.sums low furthest.is_one here furthest.here)
    where
      suffix : (first : ℕ) (gates : List ℕ) → Launches circuit from first
          → IsAfter circuit first gates signal
          → delay_by greatest circuit tech (first ∷ gates) ≡ extreme_of greatest sums
          → IsNoFurther greatest (extreme_of greatest sums)
          (extreme_of greatest furthest.sums
          +ℤ gate_by greatest tech (slice_get circuit.signals signal))
      suffix first gates launches is_after shown =
          let there = chain_within is_after.read (first ∷ is_after.prefix)
          (read_low signal is_after.read low is_after.reads) (launches, is_after.follows) in
          let lower = no_further_than greatest _ _ _ there.2
          (furthest.furthest is_after.read there.0 is_after.reads there.1) in
          let whole = sym shown ∙ ap (λ l. delay_by greatest circuit tech (first ∷ l)) is_after.is
          ∙ delay_push greatest circuit tech first is_after.prefix signal in
          rw whole (no_further_after greatest _ _ _ lower)

      at : (chain : List ℕ) → IsChain circuit from signal chain
          → delay_by greatest circuit tech chain ≡ extreme_of greatest sums
          → IsNoFurther greatest (extreme_of greatest sums)
          (extreme_of greatest furthest.sums
          +ℤ gate_by greatest tech (slice_get circuit.signals signal))
      at [] is_chain shown = absurd is_chain
      at (first ∷ gates) is_chain shown = elim (last_of circuit first gates signal is_chain.1) [
        | inl alone ↦
            absurd (launched_no_gate circuit from signal read
            (subst (Launches circuit from) alone.1 is_chain.0) furthest.is_one)
        | inr is_after ↦ suffix first gates is_chain.0 is_after shown
      ]

  -- where the walk found nothing at what a signal reads, the register launches it
  is_start : (signal : ℕ) (sums : Sums) → IsLow signal → sums_to walk lane signal ≡ Some sums
      → ((read : ℕ) → Reads circuit.signals signal read → sums_to walk lane read ≡ None)
      → Launches circuit from signal × (extreme_of greatest sums ≡ own_by greatest tech)
  is_start signal sums low here none =
      let shown = reached signal sums low here in at shown.chain shown.is_chain shown.shown
    where
      at : (chain : List ℕ) → IsChain circuit from signal chain
          → delay_by greatest circuit tech chain ≡ extreme_of greatest sums
          → Launches circuit from signal × (extreme_of greatest sums ≡ own_by greatest tech)
      at [] is_chain shown = absurd is_chain
      at (first ∷ gates) is_chain shown = elim (last_of circuit first gates signal is_chain.1) [
        | inl alone ↦
            let own = delay_is greatest circuit tech first [] in
            let whole = sym shown ∙ ap (λ l. delay_by greatest circuit tech (first ∷ l)) alone.0 in
            (subst (Launches circuit from) alone.1 is_chain.0, omega (arith, ints, own, whole))
        | inr is_after ↦
            absurd (unreached is_after.read (first ∷ is_after.prefix)
            (read_low signal is_after.read low is_after.reads)
            (none is_after.read is_after.reads) (is_chain.0, is_after.follows))
      ]

  -- the last signal by itself
  pub back_first : (last : ℕ) (path : List ℕ) → path ≡ last ∷ []
      → last < length circuit.signals → (furthest : IsFurthest walk lane (Captures circuit to)
      greatest last) → IsBack circuit tech walk lane reach.top greatest last path last
  back_first last path is within furthest = record {
    rest = [];
    is = ap reverse is;
    within = within;
    low = reach.captured last furthest.is_one;
    follows = refl;
    sums = furthest.sums;
    here = furthest.here;
    end = furthest.sums;
    end_here = furthest.here;
    total = omega (arith, ints);
  }

  -- one signal further back
  pub back_next : (last signal read : ℕ) (path longer : List ℕ) → longer ≡ path ++ read ∷ []
      → IsFurthest walk lane (Reads circuit.signals signal) greatest read
      → IsBack circuit tech walk lane reach.top greatest last path signal
      → IsBack circuit tech walk lane reach.top greatest last longer read
  back_next last signal read path longer is furthest back =
      let adds = furthest_adds signal read back.sums back.low back.here furthest in
      record {
        rest = signal ∷ back.rest;
        is = ap reverse is ∙ reverse-append path (read ∷ []) ∙ ap (λ l. read ∷ l) back.is;
        within = reads_within circuit.signals signal read circuit.valid.read furthest.is_one;
        low = read_low signal read back.low furthest.is_one;
        follows = (furthest.is_one, back.follows);
        sums = furthest.sums;
        here = furthest.here;
        end = back.end;
        end_here = back.end_here;
        total = let sum = back.total in omega (arith, ints, adds, sum);
      }

  -- back at a signal that the register launches, it is a path, and none is further
  pub back_at_start : (last signal : ℕ) (path rotated : List ℕ) → rotated ≡ reverse path
      → IsFurthest walk lane (Captures circuit to) greatest last
      → ((read : ℕ) → Reads circuit.signals signal read → sums_to walk lane read ≡ None)
      → IsBack circuit tech walk lane reach.top greatest last path signal
      → IsExtremePath circuit tech from to greatest rotated
  back_at_start last signal path rotated is furthest none back =
      let start = is_start signal back.sums back.low back.here none in
      let own = delay_is greatest circuit tech signal back.rest in
      let sum = back.total in
      let delay : delay_by greatest circuit tech (signal ∷ back.rest)
      ≡ extreme_of greatest back.end = omega (arith, ints, own, sum, start.1) in
      let same_end : back.end ≡ furthest.sums =
      same_Some back.end furthest.sums (sym back.end_here ∙ furthest.here) in
      rw (is, back.is) record {
        is_path = (start.0, (last, back.follows, furthest.is_one));
        extreme = λ other is_path.
            let chain = chain_of_path circuit from to other is_path in
            let there =
            chain_within chain.0 other (reach.captured chain.0 chain.2) chain.1 in
            rw (delay, same_end)
            (no_further_than greatest _ _ _ there.2
            (furthest.furthest chain.0 there.0 chain.2 there.1));
      }
