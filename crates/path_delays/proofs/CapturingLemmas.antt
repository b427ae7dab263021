-- Which registers capture what a walk reached, signal by signal.
use Rattle.path_delays.proofs.Vocabulary.{ℕ, ◌≡◌, ◌<◌, ◌≤◌, ◌+◌, ◌*◌, ◌⊎◌, ◌==◌, [], ◌∷◌, ◌++◌, not, false, slice_index_or, IsPath, IsTrue, List, length, get_or, get_or_append_left, length_push, All, Contains, Option, Some, None, inl, inr, refl, sym, ◌∙◌, ap, subst, arith, Contains-get_or, cases_eq, and_parts, and_from, not-true, eqb-false, ne_eqb, true≢false, Circuit, Tech, Groups, bounds_of, group_of, Capturing, NumberSet, Sums, Walk, has_number, AreInserted, AreListed, IsLowestTaken, IsChain, IsReach, HasReach, sums_to, AreCapturersOf, AreCapturedBelow, IsCapturer, HasCaptureRoom, IsSameCapturing, AreAllReached, AreGathered, IsCapturingOf}
use Rattle.std.proofs.Common.{IsSome}
use Rattle.path_delays.specs.declared.capturing.Capture.{Capture}
use Rattle.path_delays.specs.declared.lanes.LaneSums.{LaneSums}
use Rattle.path_delays.specs.Capturings.{IsCapture}
use Rattle.path_delays.proofs.ReachedPairs.{chain_of_path}
use Rattle.path_delays.proofs.CaptureLemmas.{few_signals, few_registers, capture_within}

-- the registers of the signals below a number are gathered; those of later signals wait
pub record IsGathering (walk : Walk) (old now : Capturing) (next : ℕ) : Type 0 where
  pub same : IsSameCapturing old now
  pub above : (signal : ℕ) → IsTrue (has_number now.reached.words.items signal) → next ≤ signal
  pub captured : (signal : ℕ) → IsTrue (has_number now.reached.words.items signal)
      → IsTrue (has_number old.captured.words.items signal)
  pub all : (lane signal register : ℕ) → IsCapturer old signal register
      → IsSome (sums_to walk lane signal) → IsTrue (has_number now.reached.words.items signal)
      ⊎ IsTrue (has_number now.found.words.items register)
  pub each : (register : ℕ) → IsTrue (has_number now.found.words.items register)
      → (signal : ℕ) × IsCapturer old signal register

-- a list of one
pub single_list : (signals : List ℕ) → 1 ≤ length signals → length signals < 2
    → signals ≡ get_or signals 0 0 ∷ []
single_list [] some few = absurd (omega (arith, some))
single_list (signal ∷ []) some few = refl
single_list (signal ∷ other ∷ more) some few = absurd (omega (arith, few))

-- what is as before twice is as before
same_capturing : (old now later : Capturing) → IsSameCapturing old now → IsSameCapturing now later
    → IsSameCapturing old later
same_capturing old now later first second = grind (arith)

-- a register that captures a signal still does
capturer_same : (old new : Capturing) (signal register : ℕ) → IsSameCapturing old new
    → IsCapturer new signal register → IsCapturer old signal register
capturer_same old new signal register same capturer = grind (arith)

-- and did before
capturer_before : (old new : Capturing) (signal register : ℕ) → IsSameCapturing old new
    → IsCapturer old signal register → IsCapturer new signal register
capturer_before old new signal register same capturer = grind (arith)

module _ (walk : Walk) (old : Capturing) where
  -- the registers of one signal more
  pub gathering_next : (now later : Capturing) (next signal : ℕ) → IsSameCapturing now later
      → IsLowestTaken now.reached.words.items later.reached.words.items signal
      → AreInserted (group_of now.capturers signal) now.found.words.items later.found.words.items
      → IsGathering walk old now next → IsGathering walk old later (signal + 1)
  gathering_next now later next signal step taken inserted so_far = record {
    same = same_capturing old now later so_far.same step;
    above = λ other held.
        let both = left other held in
        let lowest = taken.lowest other both.0 in
        let apart = eqb-false other signal (not-true (other == signal) both.1) in
        elim (cases_eq other signal) [ inl same ↦ absurd (apart same) | inr differs ↦ omega arith ];
    captured = λ other held. so_far.captured other (left other held).0;
    all = λ lane other register capturer some. elim (so_far.all lane other register capturer some) [
      | inl waits ↦ elim (cases_eq other signal) [
        | inl same ↦
            inr ((inserted.each register).1
            (inl (subst (λ n. Contains (group_of now.capturers n) register) same
            (subst (λ (g : Groups). Contains (group_of g other) register)
            (sym so_far.same.capturers) capturer.listed))))
        | inr differs ↦
            inl (taken.each other ∙ and_from (has_number now.reached.words.items other)
            (not (other == signal)) waits (ap not (ne_eqb other signal differs)))
      ]
      | inr gathered ↦ inr ((inserted.each register).1 (inr gathered))
    ];
    each = λ register held. elim ((inserted.each register).0 held) [
      | inl listed ↦ (
        signal,
        record {
          captured = so_far.captured signal taken.held;
          listed = subst (λ (g : Groups). Contains (group_of g signal) register)
              so_far.same.capturers listed;
        },
      )
      | inr earlier ↦ so_far.each register earlier
    ];
  }
    where
      left : (other : ℕ) → IsTrue (has_number later.reached.words.items other)
          → IsTrue (has_number now.reached.words.items other) × IsTrue (not (other == signal))
      left other held = and_parts (has_number now.reached.words.items other) (not (other == signal))
          (sym (taken.each other) ∙ held)

  -- where no signal waits, the registers in the set are gathered, and become the list
  pub gathered_all : (first now later : Capturing) (next : ℕ) → IsSameCapturing first old
      → IsSameCapturing now later
      → ((signal : ℕ) → has_number now.reached.words.items signal ≡ false)
      → AreListed now.found.words.items later.registers.items → IsGathering walk old now next
      → AreGathered walk first later
  gathered_all first now later next begun step none lists so_far = record {
    same = same_capturing first old later begun (same_capturing old now later so_far.same step);
    all = λ lane signal register capturer some.
        let capturer = capturer_before first old signal register begun capturer in
        elim (so_far.all lane signal register capturer some) [
          | inl waits ↦ absurd (true≢false (sym waits ∙ none signal))
          | inr gathered ↦ (lists.each register).1 gathered
        ];
    each = λ register held.
        let found = so_far.each register ((lists.each register).0 held) in
        (found.0, capturer_same first old found.0 register begun found.1);
    ascending = lists.ascending;
  }

-- there is room where there is as much as before
pub HasCaptureRoom-same : (old new : Capturing) → IsSameCapturing old new → HasCaptureRoom old
    → HasCaptureRoom new
HasCaptureRoom-same old new same room = record {
  groups = λ signal held.
      let before : IsTrue (has_number old.captured.words.items signal) =
      subst (λ (s : NumberSet). IsTrue (has_number s.words.items signal)) same.captured held in
      subst (λ (g : Groups). signal + 1 < bounds_of g) (sym same.capturers)
      (room.groups signal before);
  found = λ signal register capturer. omega (
    arith,
    same.found,
    room.found signal register (capturer_same old new signal register same capturer),
  );
  reached = same.reached
      ∙ (room.reached ∙ ap (λ (s : NumberSet). length s.words.items) (sym same.captured));
  small_reached = omega (arith, same.reached, room.small_reached);
  small_found = omega (arith, same.found, room.small_found);
}

-- the registers of a signal that waits have their place in the set
pub gathering_room : (walk : Walk) (old now : Capturing) (next signal : ℕ) → HasCaptureRoom old
    → IsGathering walk old now next → IsTrue (has_number now.reached.words.items signal)
    → All (λ register. register < 64 * length now.found.words.items)
    (group_of now.capturers signal)
gathering_room walk old now next signal room so_far waits = λ k d inside.
    (HasCaptureRoom-same old now so_far.same room).found signal
    (get_or (group_of now.capturers signal) k d) (record {
      captured = subst (λ (s : NumberSet). IsTrue (has_number s.words.items signal))
          (sym so_far.same.captured) (so_far.captured signal waits);
      listed = Contains-get_or (group_of now.capturers signal) k d inside;
    })

-- a capture stays one where more is found at several signals
pub still_capture : (circuit : Circuit) (walk : Walk) (merged : List LaneSums) (more : LaneSums)
    (capture : Capture) → IsCapture circuit walk merged capture
    → IsCapture circuit walk (merged ++ more ∷ []) capture
still_capture circuit walk merged more capture is = record {
  within = is.within;
  single = is.single;
  several = λ place here. let at = is.several place here in record {
    within = omega (arith, at.within, length_push merged more);
    captured = at.captured;
    exact = at.exact;
    each =
        rw (get_or_append_left merged (more ∷ []) (record { sums = [] }) place at.within) at.each;
  };
  missed = is.missed;
}

-- no path leads to a register in a lane in which nothing was found
pub missed_path : (circuit : Circuit) (tech : Tech) (from lane : ℕ) (walk : Walk)
    (merged : List LaneSums) (capture : Capture) → HasReach circuit tech from lane walk
    → IsCapture circuit walk merged capture → lane < 16
    → slice_index_or capture.lanes lane false ≡ false → (path : List ℕ)
    → IsPath circuit from capture.register path → ⊥
missed_path circuit tech from lane walk merged capture reach is low missed path is_path =
    let chain = chain_of_path circuit from capture.register path is_path in
    subst (IsReach circuit tech from chain.0) (is.missed lane chain.0 low missed chain.2)
    (reach.each capture.register chain.0 chain.2) path chain.1

module _ (circuit : Circuit) where
  -- room for as many signals and registers is room for those of the circuit
  pub capturing_made : (capturing : Capturing) → AreCapturersOf circuit capturing.capturers
      → AreCapturedBelow circuit (length circuit.registers) capturing.captured.words.items
      → length capturing.reached.words.items ≡ length capturing.captured.words.items
      → length circuit.registers < 64 * length capturing.found.words.items
      → 64 * length capturing.found.words.items ≤ length circuit.registers + 64
      → IsCapturingOf circuit capturing
  capturing_made capturing capturers captured covers more small = record {
    capturers = capturers;
    captured = captured;
    room = record {
      groups = λ signal held. omega (arith, capturers.long, captured.each signal held);
      found = λ signal register capturer. omega (
        arith,
        more,
        (capture_within circuit register signal
            (capturers.each signal register
            (captured.each signal capturer.captured) capturer.listed)).0,
      );
      reached = covers;
      small_reached = omega (arith, covers, captured.small, few_signals circuit);
      small_found = omega (arith, small, few_registers circuit);
    };
  }

  -- and the same signals and registers
  pub capturing_same : (old new : Capturing) → IsSameCapturing old new → IsCapturingOf circuit old
      → IsCapturingOf circuit new
  capturing_same old new same is = grind (arith, HasCaptureRoom-same)

  -- what is gathered are registers of the circuit, and among them is each that a path leads to
  pub gathered_from : (tech : Tech) (from lane : ℕ) (walk : Walk) (old new : Capturing)
      → HasReach circuit tech from lane walk → IsCapturingOf circuit old → AreGathered walk old new
      → AreAllReached circuit from new.registers.items
  gathered_from tech from lane walk old new reach is gathered = record {
    within = λ k d inside.
        let register = get_or new.registers.items k d in
        let found = gathered.each register (Contains-get_or new.registers.items k d inside) in
        (capture_within circuit register found.0
        (is.capturers.each found.0 register
        (is.captured.each found.0 found.1.captured) found.1.listed)).0;
    ascending = gathered.ascending;
    joined = λ to path is_path.
        let chain = chain_of_path circuit from to path is_path in
        gathered.all lane chain.0 to
        (record {
          captured =
              is.captured.all to chain.0 (capture_within circuit to chain.0 chain.2).0 chain.2;
          listed = is.capturers.all chain.0 to chain.2;
        })
        (some path chain.0 chain.1 (sums_to walk lane chain.0) (reach.each to chain.0 chain.2));
  }
    where
      some : (path : List ℕ) (signal : ℕ) → IsChain circuit from signal path → (o : Option Sums)
          → IsReach circuit tech from signal o → IsSome o
      some path signal is_chain None none = absurd (none path is_chain)
      some path signal is_chain (Some sums) extreme = refl
