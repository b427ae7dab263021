-- The sweep over the signals: what registers launch, then gate after gate, then what is captured.
use Rattle.path_delays.proofs.Vocabulary.{◌≡◌, ◌+◌, ◌*◌, ◌^◌, ◌<◌, ◌⊎◌, ℕ, ℤ, pos, ◌+ℤ◌, ◌*ℤ◌, true, IsTrue, List, [], ◌∷◌, ◌++◌, length, take, set, get_or, replicate, All, Contains, Option, Some, None, inl, inr, refl, sym, ◌∙◌, ap, subst, arith, nat_abs, slice_get, IfSome, option_map, cases_eq, cases_lt, ints, length-replicate, get_or-replicate, get_or_past, length-set, get_or-set_same, get_or-set_other, get_or-take, length-take-le, take_more, take_all, Contains-get_or, Contains-push_cases, same_Some, slice_get_within, slice_get_read, slice_get-get_or, get_or_from_slice_get, Signal, Circuit, Tech, least_through, greatest_through, is_gate, is_valid, Reads, Launches, Captures, IsTopologicalOrder, IsGate-from_Reads, gate_within, Sums, Window, along, AreExtremesIfAny, AreLaunchedBy, AreShownBy, Comes, IsJoinedAt, StandsAt, gate_sums_at, gate_sums, AreAround, sums_through, window_along, IsHullIfAny, IsWindowBelow, ComesTo, AreWindows, window_after, either_window, window_at, AreBelow, IsGateWindow, AreCaptures, BegunTo, start_window, window_limit, sums_of, sums_in, scaled_delay, AreSwept, StartsBelow, NoneHanded, HandedToPassed, AreLaunched, ArePassed}
use Rattle.path_delays.specs.Types.{Schedule}
use Rattle.cts_model.specs.Vocabulary.{arrival_of}
use Rattle.path_delays.proofs.CarryLemmas.{IsHandedBy, carried_end, carried_joined, carried_none, carried_same, extremes_of_extremes, gate_around, gate_shown, listed_next, shown_start}
use Rattle.path_delays.proofs.SumLemmas.{around_itself}
use Rattle.path_delays.proofs.NetworkDelays.{gate_sums_are}
use Rattle.path_delays.proofs.NetworkLemmas.{few_gates}
use Rattle.path_delays.proofs.ReachedPairs.{chain_of_path, path_of_chain, read_within}
use Rattle.path_delays.proofs.WindowLemmas.{moved, below_wider, below_either, extremes_below, sums_of_either}

-- what launches a signal is a register
launcher_within : (circuit : Circuit) (from number : ℕ) → Launches circuit from number
    → from < length circuit.registers
launcher_within circuit from number launches = grind (arith, slice_get_within)

-- a gate of the order as it was read
pub record IsReadGate (circuit : Circuit) (order : List ℕ) (place gate : ℕ)
    (signal : Signal) : Type 0 where
  pub stands : slice_get order place ≡ Some gate
  pub within : gate < length circuit.signals
  pub here : slice_get circuit.signals gate ≡ Some signal
  pub is_one : is_gate signal.kind ≡ true
  pub valid_inputs : IsTrue (is_valid signal.kind (length signal.fan_in))
  pub reads : All (λ number. number < length circuit.signals) signal.fan_in

-- the next one stands among the signals
pub next_within : (circuit : Circuit) (order gates : List ℕ) (place : ℕ)
    → IsTopologicalOrder circuit.signals order → gates ≡ order → place < length gates
    → get_or gates place 0 < length circuit.signals
next_within circuit order gates place sorted same low = grind (arith, gate_within)

-- and is a gate
pub next_read : (circuit : Circuit) (order gates : List ℕ) (signals : List Signal) (place : ℕ)
    (signal : Signal) → IsTopologicalOrder circuit.signals order → gates ≡ order
    → signals ≡ circuit.signals → place < length gates
    → signal ≡ get_or signals (get_or gates place 0) signal
    → IsReadGate circuit order place (get_or gates place 0) signal
next_read circuit order gates signals place signal sorted same signals_are low read =
    grind (arith, next_within, slice_get_read, slice_get-get_or, read_within)

module _ (old new : List (Option Window)) (signal : ℕ) (found : Option Window)
    (within : signal < length old)
    (put : new ≡ set old signal (either_window (window_at old signal) found)) where
  abbrev either : Option Window
  either = either_window (window_at old signal) found

  -- what is put at a signal is joined there
  pub put_joined : IsJoinedAt signal (option_map sums_of found) (sums_in old) (sums_in new)
  put_joined = grind (arith, get_or-set_same, sums_of_either, get_or-set_other)

  pub put_covers : length new ≡ length old
  put_covers = ap length put ∙ length-set old signal either

  -- and as small as what stood there
  pub put_small : (bound : ℕ) → AreBelow bound old
      → ((window : Window) → found ≡ Some window → IsWindowBelow bound window) → AreBelow bound new
  put_small bound before now number window here =
      grind (arith, cases_eq, below_either, get_or-set_same, get_or-set_other)

module _ (circuit : Circuit) (tech : Tech) (schedule : Schedule) where
  abbrev delay : ℕ → Sums
  delay = scaled_delay circuit tech schedule

  abbrev signals : List Signal
  signals = circuit.signals

  abbrev AllStart : ℕ → Sums → Type 0
  AllStart = StartsBelow circuit tech schedule (length circuit.registers)

  -- nothing is launched where nothing stands
  pub launched_none : (count : ℕ) → count ≡ length circuit.signals
      → AreLaunched circuit tech schedule 0 (replicate count None)
  launched_none count covers =
      grind (arith, length-replicate, carried_none, cases_lt, get_or-replicate, get_or_past)

  -- the signals that a register launches, so far
  module _ (from : ℕ) (launched : List ℕ) (all : AreLaunchedBy circuit from launched) where
    abbrev start : Sums
    start = sums_of (start_window tech schedule from)

    abbrev Begun : ℕ → ℕ → Sums → Type 0
    Begun place = BegunTo circuit tech schedule from (take place launched)

    -- none yet
    pub begun_none : (windows : List (Option Window))
        → AreLaunched circuit tech schedule from windows
        → AreSwept circuit tech schedule 0 (Begun 0) NoneHanded windows
    begun_none windows are = record {
      covers = are.covers;
      carried = carried_same signals delay AllStart (StartsBelow circuit tech schedule from)
          (Begun 0) NoneHanded NoneHanded (sums_in windows) (sums_in windows)
          (λ signal sums starts begun. elim begun [
            | inl before ↦ before
            | inr listed ↦ absurd (none_listed signal listed.0)
          ])
          (λ read gate sums here none reads. none) (λ signal. refl) are.carried;
      small = are.small;
    }
      where
        none_listed : (signal : ℕ) → Contains (take 0 launched) signal → ⊥
        none_listed signal (place, within, here) = absurd (omega arith)

    -- one more
    pub begun_next : (place : ℕ) (old new : List (Option Window))
        → from < length circuit.registers → place < length launched
        → get_or launched place 0 < length old
        → IsWindowBelow (window_limit 0) (start_window tech schedule from)
        → new ≡ set old (get_or launched place 0)
        (either_window (window_at old (get_or launched place 0))
        (Some (start_window tech schedule from)))
        → AreSwept circuit tech schedule 0 (Begun place) NoneHanded old
        → AreSwept circuit tech schedule 0 (Begun (place + 1)) NoneHanded new
    begun_next place old new register low within below put are = record {
      covers = put_covers old new signal found within put ∙ are.covers;
      carried = carried_joined signals delay AllStart (Begun place) (Begun (place + 1)) NoneHanded
          NoneHanded signal (Some start) (sums_in old) (sums_in new)
          (put_joined old new signal found within put)
          (λ one sums starts begun. elim begun [
            | inl before ↦ inl (inl before)
            | inr listed ↦ elim (listed_next launched place one low listed.0) [
              | inl earlier ↦ inl (inr (earlier, listed.1))
              | inr last ↦ inr (
                last,
                subst (AreAround (Some start)) (sym listed.1) (around_itself start),
              )
            ]
          ])
          (λ sums here. subst (AreShownBy (Comes signals delay AllStart signal))
          (same_Some start sums here)
          (shown_start signals delay AllStart signal start (from, register, launches, refl)))
          (λ read gate none reads. absurd none) are.carried;
      small = put_small old new signal found within put (window_limit 0) are.small
          (λ window here. subst (IsWindowBelow (window_limit 0))
          (same_Some (start_window tech schedule from) window here) below);
    }
      where
        signal : ℕ
        signal = get_or launched place 0

        launches : Launches circuit from signal
        launches = (all signal).0 (Contains-get_or launched place 0 low)

        found : Option Window
        found = Some (start_window tech schedule from)

    -- all of them
    pub begun_all : (windows : List (Option Window))
        → AreSwept circuit tech schedule 0 (Begun (length launched)) NoneHanded windows
        → AreLaunched circuit tech schedule (from + 1) windows
    begun_all windows are = record {
      covers = are.covers;
      carried = carried_same signals delay AllStart (Begun (length launched))
          (StartsBelow circuit tech schedule (from + 1)) NoneHanded NoneHanded (sums_in windows)
          (sums_in windows)
          (λ signal sums starts (register, low, launches, same). elim (cases_eq register from) [
            | inl last ↦ inr (
              subst (λ list. Contains list signal)
                  (sym (take_all (length launched) launched (omega arith)))
                  ((all signal).1 (subst (λ r. Launches circuit r signal) last launches)),
              subst (λ r. sums ≡ sums_of (start_window tech schedule r)) last same,
            )
            | inr earlier ↦ inl (register, omega arith, launches, same)
          ])
          (λ read gate sums here none reads. none) (λ signal. refl) are.carried;
      small = are.small;
    }

  -- what registers launch is there, and no gate is passed yet
  pub passed_none : (order : List ℕ) (windows : List (Option Window))
      → AreLaunched circuit tech schedule (length circuit.registers) windows
      → ArePassed circuit tech schedule order 0 windows
  passed_none order windows are = grind (arith, carried_same)

  -- a gate that is passed takes what all that it reads hands to it
  module _ (gate : ℕ) (signal : Signal) (here : slice_get circuit.signals gate ≡ Some signal)
      (is_one : is_gate signal.kind ≡ true) where
    abbrev scale : ℕ
    scale = nat_abs schedule.den

    abbrev own : Sums
    own = gate_sums_at circuit tech gate

    own_is : gate_sums tech signal ≡ own
    own_is = gate_sums_are circuit tech gate signal here is_one

    -- what the gate reads is its fan-in
    reads_of : (read : ℕ) → Contains signal.fan_in read → Reads circuit.signals gate read
    reads_of read listed = rw here (is_one, listed)

    listed_of : (read : ℕ) → Reads circuit.signals gate read → Contains signal.fan_in read
    listed_of read reads = (rw here at reads).1

    -- the sums after the gate are those of the window after it
    sums_after : (read : Option Window)
        → option_map sums_of (option_map (window_after scale own) read)
        ≡ option_map (λ (one : Sums). sums_through one (delay gate)) (option_map sums_of read)
    sums_after None = refl
    sums_after (Some window) = refl

    -- no gate is passed before one that it reads
    module _ (order : List ℕ) (place : ℕ) (sorted : IsTopologicalOrder circuit.signals order)
        (there : slice_get order place ≡ Some gate) where
      after_itself : (next : ℕ) → Contains (take (place + 1) order) next
          → Reads circuit.signals next gate → ⊥
      after_itself next (k, within, stands) reads =
          let inside = slice_get_within order place gate there in
          let low : k < place + 1 =
          omega (arith, length-take-le (place + 1) order (omega (arith, inside))) in
          let k_stands : get_or order k next ≡ next =
          sym (get_or-take (place + 1) order k next low) ∙ stands in
          let earlier = sorted.after k next gate
          (slice_get-get_or order k next (omega (arith, inside)) ∙ ap (λ n. Some n) k_stands) reads
          (rw here is_one) in
          let before : earlier.0 < k =
          omega (arith, earlier.1, length-take-le k order (omega (arith, inside, low))) in
          let first : get_or order earlier.0 gate ≡ gate =
          sym (get_or-take k order earlier.0 gate before) ∙ earlier.2 in
          let second : get_or order place gate ≡ gate =
          get_or_from_slice_get order place gate gate there in
          sorted.once earlier.0 place gate (omega (arith, before, low)) inside
          (first ∙ sym second)

      pub passed_next : (old new : List (Option Window)) (found : Option Window)
          → IsGateWindow old signal.fan_in scale (gate_sums tech signal) found
          → ((window : Window) → found ≡ Some window
          → IsWindowBelow (window_limit (place + 1)) window)
          → new ≡ set old gate (either_window (window_at old gate) found)
          → ArePassed circuit tech schedule order place old
          → ArePassed circuit tech schedule order (place + 1) new
      passed_next old new found of below put are = record {
        covers = put_covers old new gate found within put ∙ are.covers;
        carried = carried_joined signals delay AllStart AllStart AllStart
            (HandedToPassed order place) (HandedToPassed order (place + 1)) gate after (sums_in old)
            (sums_in new) joined (λ one start starts begun. inl begun)
            (gate_shown signals delay AllStart (sums_in old) gate (Contains signal.fan_in)
            (option_map sums_of of.read) of.extremes reads_of are.carried.shown) hands are.carried;
        small = put_small old new gate found within put (window_limit (place + 1))
            (λ number window stands. below_wider (window_limit place) (window_limit (place + 1))
            window (omega arith) (are.small number window stands)) below;
      }
        where
          within : gate < length old
          within = omega (arith, slice_get_within circuit.signals gate signal here, are.covers)

          after : Option Sums
          after = option_map (λ (one : Sums). sums_through one (delay gate))
              (option_map sums_of of.read)

          joined : IsJoinedAt gate after (sums_in old) (sums_in new)
          joined = subst (λ o. IsJoinedAt gate o (sums_in old) (sums_in new))
              (ap (option_map sums_of) (of.suffix
              ∙ ap (λ (sums : Sums). option_map (window_after scale sums) of.read) own_is)
              ∙ sums_after of.read)
              (put_joined old new gate found within put)

          pushed : take (place + 1) order ≡ take place order ++ gate ∷ []
          pushed = take_more order place gate (slice_get_within order place gate there)
              ∙ ap (λ g. take place order ++ g ∷ [])
              (get_or_from_slice_get order place gate gate there)

          around : (read : ℕ) → Reads circuit.signals gate read → (sums : Sums)
              → sums_in old read ≡ Some sums → AreAround after (sums_through sums (delay gate))
          around read reads = gate_around signals delay AllStart (sums_in old) gate
              (Contains signal.fan_in) (option_map sums_of of.read) of.extremes read
              (listed_of read reads)

          counts : (read next : ℕ) → HandedToPassed order (place + 1) read next
              → Reads circuit.signals next read → HandedToPassed order place read next
              ⊎ ((next ≡ gate) × ((sums : Sums) → sums_in old read ≡ Some sums
              → AreAround after (sums_through sums (delay next))))
          counts read next listed reads = elim (Contains-push_cases (take place order) gate next
              (subst (λ l. Contains l next) pushed listed)) [
                | inl earlier ↦ inl earlier
                | inr last ↦ inr (
                  sym last,
                  λ sums stands. subst (λ n. AreAround after (sums_through sums (delay n))) last
                      (around read (subst (λ n. Reads circuit.signals n read) (sym last) reads) sums
                      stands),
                )
              ]

          hands : (read next : ℕ) → HandedToPassed order (place + 1) read next
              → Reads circuit.signals next read
              → IsHandedBy signals delay (HandedToPassed order place) gate after (sums_in old) read
              next
          hands read next listed reads = record {
            apart = λ same. after_itself next listed
                (subst (Reads circuit.signals next) same reads);
            counts = counts read next listed reads;
          }

  -- a chain's delays over the scale are what its gates add up to
  along_is : (start : Sums) (gates : List ℕ) → along delay start gates
      ≡ record {
        least = start.least +ℤ (pos (nat_abs schedule.den) *ℤ least_through circuit tech gates);
        greatest =
            start.greatest +ℤ (pos (nat_abs schedule.den) *ℤ greatest_through circuit tech gates);
      }
  along_is start [] = λ i. record {
    least = nothing_more start.least i;
    greatest = nothing_more start.greatest i;
  }
    where
      nothing_more : (time : ℤ) → time ≡ time +ℤ (pos (nat_abs schedule.den) *ℤ pos 0)
      nothing_more time = omega (arith, ints)
  along_is start (gate ∷ gates) =
      let rest = along_is (sums_through start (delay gate)) gates in
      let least = moved (nat_abs schedule.den) start.least (gate_sums_at circuit tech gate).least
      (least_through circuit tech gates) (least_through circuit tech (gate ∷ gates)) refl in
      let greatest = moved (nat_abs schedule.den) start.greatest
      (gate_sums_at circuit tech gate).greatest (greatest_through circuit tech gates)
      (greatest_through circuit tech (gate ∷ gates)) refl in
      rest ∙ (λ i. record { least = least i; greatest = greatest i })

  -- a window in the two words
  abbrev window_from : Sums → Window
  window_from sums = record { earliest = sums.least; latest = sums.greatest }

  abbrev begin : ℕ → Sums
  begin from = sums_of (start_window tech schedule from)

  -- a chain's window is what comes over its gates
  chain_along : (from first : ℕ) (gates : List ℕ)
      → sums_of (window_along circuit tech (nat_abs schedule.den) (arrival_of schedule.at) from
      (first ∷ gates)) ≡ along delay (begin from) gates
  chain_along from first gates = grind (arith, moved, along_is)

  -- so what comes to a signal that the register captures comes along a path
  path_of_comes : (register signal : ℕ) (sums : Sums) → Captures circuit register signal
      → Comes signals delay AllStart signal sums
      → ComesTo circuit tech (nat_abs schedule.den) (arrival_of schedule.at) register
      (window_from sums)
  path_of_comes register signal sums captures comes =
      let (from, low, launches, same) = comes.starts in (
        from,
        comes.first ∷ comes.gates,
        path_of_chain circuit from register signal (comes.first ∷ comes.gates)
            (launches, comes.follows) captures,
        ap window_from (chain_along from comes.first comes.gates
            ∙ (ap (λ (start : Sums). along delay start comes.gates) (sym same) ∙ comes.ends)),
      )

  -- what is captured
  abbrev Captured : ℕ → Sums → Type 0
  Captured register sums =
      (signal : ℕ) × Captures circuit register signal × Comes signals delay AllStart signal sums

  -- and what comes along a path does to such a signal
  comes_of_path : (register : ℕ) (window : Window)
      → ComesTo circuit tech (nat_abs schedule.den) (arrival_of schedule.at) register window
      → Captured register (sums_of window)
  comes_of_path register window (from, [], is_path, same) = absurd is_path
  comes_of_path register window (from, first ∷ gates, is_path, same) =
      let (last, (launches, follows), captures) =
      chain_of_path circuit from register (first ∷ gates) is_path in (
        last,
        captures,
        record {
          first = first;
          start = begin from;
          starts = (from, launcher_within circuit from first launches, launches, refl);
          gates = gates;
          follows = follows;
          ends = sym (chain_along from first gates) ∙ ap sums_of same;
        },
      )

  -- so the least and the greatest of what is captured are the hull over all paths
  hull_of_extremes : (register : ℕ) (known : Option Window)
      → AreExtremesIfAny (Captured register) (option_map sums_of known)
      → IsHullIfAny (ComesTo circuit tech (nat_abs schedule.den) (arrival_of schedule.at) register)
      known
  hull_of_extremes register None none = λ window comes.
      none (sums_of window) (comes_of_path register window comes)
  hull_of_extremes register (Some hull) is =
      let (low, (first, first_captured, first_comes), least) = is.shown.least in
      let (high, (last, last_captured, last_comes), greatest) = is.shown.greatest in
      record {
        each = λ window comes.
            let around = is.around (sums_of window) (comes_of_path register window comes) in
            record { earliest = around.least; latest = around.greatest };
        first = window_from low;
        first_comes = path_of_comes register first low first_captured first_comes;
        earliest = least;
        last = window_from high;
        last_comes = path_of_comes register last high last_captured last_comes;
        latest = greatest;
      }

  -- with all gates passed those are what stands at the registers
  pub windows_are : (order : List ℕ) (windows captured : List (Option Window))
      → IsTopologicalOrder circuit.signals order
      → ArePassed circuit tech schedule order (length order) windows
      → AreCaptures circuit windows (length circuit.registers) captured
      → AreWindows circuit tech schedule captured
  windows_are order windows captured sorted passed are = record {
    registers = are.registers;
    each = λ register window here. hull_of_extremes register window
        (extremes_of_extremes (sums_in windows) (Captures circuit register)
        (Comes signals delay AllStart) (option_map sums_of window)
        (λ signal. carried_end signals delay AllStart AllStart (HandedToPassed order (length order))
        (sums_in windows) passed.carried (λ one start starts. starts) (λ one. Unit {0})
        (λ read gate reads done. tt)
        (λ read gate sums done stands reads. rw (take_all (length order) order (omega arith))
        (sorted.all gate (IsGate-from_Reads circuit.signals gate read reads))) signal tt)
        (are.each register window here));
    small = λ register any within. small register (get_or captured register any)
        (are.each register (get_or captured register any)
        (slice_get-get_or captured register any within));
  }
    where
      small : (register : ℕ) (window : Option Window)
          → AreExtremesIfAny (StandsAt (sums_in windows) (Captures circuit register))
          (option_map sums_of window) → IfSome window (IsWindowBelow (2 * 10 ^ 19))
      small register None none = tt
      small register (Some window) is = below_wider (window_limit (length order))
          (2 * 10 ^ 19) window (omega (arith, few_gates circuit order sorted))
          (extremes_below windows (Captures circuit register) (window_limit (length order)) window
          is passed.small)
