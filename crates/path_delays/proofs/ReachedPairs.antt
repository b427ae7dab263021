-- From what a walk found at the signals that a register captures to the delays between the two
-- registers.
use Rattle.path_delays.proofs.Vocabulary.{ℕ, ◌≡◌, ◌<◌, List, [], ◌∷◌, length, get_or, All, Contains, Option, Some, None, refl, sym, ◌∙◌, subst, arith, ◌≤ℤ◌, ints, slice_get_within, get_or_from_slice_get, Signal, Circuit, Tech, PairDelay, register_signal, Captures, IsPath, least_delay, greatest_delay, Sums, Walk, IsChain, AreExtreme, IsReach, sums_to, ReachesEach, AreCapturedBy, AreExtremesOf, StandsAt, IsDelayBetween}

-- what a signal reads are signals of the circuit
pub read_within : (circuit : Circuit) (number : ℕ) (signal : Signal)
    → number < length circuit.signals → signal ≡ get_or circuit.signals number signal
    → All (λ read. read < length circuit.signals) signal.fan_in
read_within circuit number signal within here =
    rw (← here) at (circuit.valid.read number signal within)

-- what a register captures are signals of the circuit
pub captured_within : (circuit : Circuit) (register : ℕ) (signal : Signal)
    → register_signal circuit register ≡ Some signal
    → All (λ number. number < length circuit.signals) signal.fan_in
captured_within circuit register signal found =
    grind (arith, read_within, slice_get_within, get_or_from_slice_get)

-- a chain to a signal that the register captures is a path
pub path_of_chain : (circuit : Circuit) (from to signal : ℕ) (chain : List ℕ)
    → IsChain circuit from signal chain → Captures circuit to signal → IsPath circuit from to chain
path_of_chain circuit from to signal [] is_chain captures = absurd is_chain
path_of_chain circuit from to signal (first ∷ gates) is_chain captures =
    (is_chain.0, (signal, is_chain.1, captures))

-- a path ends at a signal that the register captures, and is a chain to it
pub chain_of_path : (circuit : Circuit) (from to : ℕ) (path : List ℕ) → IsPath circuit from to path
    → (last : ℕ) × IsChain circuit from last path × Captures circuit to last
chain_of_path circuit from to [] is_path = absurd is_path
chain_of_path circuit from to (first ∷ gates) is_path =
    (is_path.1.0, (is_path.0, is_path.1.1), is_path.1.2)

-- a register captures its signal's fan-in
pub captured_is_fan_in : (circuit : Circuit) (register : ℕ) (signal : Signal)
    → register_signal circuit register ≡ Some signal → AreCapturedBy circuit register signal.fan_in
captured_is_fan_in circuit register signal found =
    λ number. (λ listed. rw found listed, λ captures. rw found at captures)

module _ (circuit : Circuit) (tech : Tech) (from to lane : ℕ) (walk : Walk) (captured : List ℕ)
    (exact : AreCapturedBy circuit to captured)
    (reach : ReachesEach circuit tech from lane captured walk) where
  -- what the walk found at a signal are the delays of its chains
  reached : (signal : ℕ) (entry : Sums) → Contains captured signal
      → sums_to walk lane signal ≡ Some entry → AreExtreme circuit tech from signal entry
  reached signal entry listed here =
      subst (IsReach circuit tech from signal) here (reach signal listed)

  -- where it found nothing, there is no chain
  no_chain : (signal : ℕ) (chain : List ℕ) → Contains captured signal
      → sums_to walk lane signal ≡ None → IsChain circuit from signal chain → ⊥
  no_chain signal chain listed nothing is_chain =
      subst (IsReach circuit tech from signal) nothing (reach signal listed) chain is_chain

  -- so no path joins the registers, where it found nothing at any
  pub no_path : ((signal : ℕ) → Contains captured signal → sums_to walk lane signal ≡ None)
      → (path : List ℕ) → IsPath circuit from to path → ⊥
  no_path none path is_path = grind (arith, chain_of_path, no_chain)

  -- the delays of a path lie within the extremes at all captured signals
  path_within : (sums : Sums)
      → AreExtremesOf (StandsAt (sums_to walk lane) (Contains captured)) sums → (path : List ℕ)
      → IsPath circuit from to path → (sums.least ≤ℤ least_delay circuit tech path)
      × (greatest_delay circuit tech path ≤ℤ sums.greatest)
  path_within sums are path is_path =
      let chain = chain_of_path circuit from to path is_path in
      let listed = (exact chain.0).1 chain.2 in
      at chain.0 listed chain.1 (sums_to walk lane chain.0) refl
    where
      at : (last : ℕ) → Contains captured last → IsChain circuit from last path
          → (entry : Option Sums) → sums_to walk lane last ≡ entry
          → (sums.least ≤ℤ least_delay circuit tech path)
          × (greatest_delay circuit tech path ≤ℤ sums.greatest)
      at last listed is_chain None nothing = absurd (no_chain last path listed nothing is_chain)
      at last listed is_chain (Some entry) here =
          let around = are.around entry (last, listed, here) in
          let reaches = reached last entry listed here in
          let low = reaches.least path is_chain in
          let high = reaches.greatest path is_chain in
          (omega (arith, ints, around.least), omega (arith, ints, around.greatest))

  -- those extremes are the delays between the registers
  pub delays_between : (sums : Sums) (pair : PairDelay)
      → AreExtremesOf (StandsAt (sums_to walk lane) (Contains captured)) sums
      → pair.from ≡ from → pair.to ≡ to → pair.least ≡ sums.least → pair.greatest ≡ sums.greatest
      → IsDelayBetween circuit tech from to pair
  delays_between sums pair are from_is to_is least_is greatest_is =
      let (low, (first, first_listed, at_first), least) = are.shown.least in
      let (high, (last, last_listed, at_last), greatest) = are.shown.greatest in
      let least_reach = reached first low first_listed at_first in
      let least_chain = least_reach.shown.least in
      let greatest_reach = reached last high last_listed at_last in
      let greatest_chain = greatest_reach.shown.greatest in
      let here : (path : List ℕ) → IsPath circuit from to path
      → IsPath circuit pair.from pair.to path = λ path is_path. rw (from_is, to_is) is_path in
      let there : (path : List ℕ) → IsPath circuit pair.from pair.to path
      → IsPath circuit from to path = λ path is_path. rw (from_is, to_is) at is_path in
      record {
        from_is = from_is;
        to_is = to_is;
        delays = record {
          least_shown = (
            least_chain.0,
            here least_chain.0 (path_of_chain circuit from to first least_chain.0 least_chain.1
                ((exact first).0 first_listed)),
            least_chain.2 ∙ least ∙ sym least_is,
          );
          least = λ path is_path. rw least_is (path_within sums are path (there path is_path)).0;
          greatest_shown = (
            greatest_chain.0,
            here greatest_chain.0 (path_of_chain circuit from to last greatest_chain.0
                greatest_chain.1 ((exact last).0 last_listed)),
            greatest_chain.2 ∙ greatest ∙ sym greatest_is,
          );
          greatest =
              λ path is_path. rw greatest_is (path_within sums are path (there path is_path)).1;
        };
        small = record {
          least = rw (least_is, ← least) least_reach.within.least;
          greatest = rw (greatest_is, ← greatest) greatest_reach.within.greatest;
        };
      }
