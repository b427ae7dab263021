-- What is carried from starts over gates: how it grows at one signal, and that in the end the least
-- and the greatest of all that comes stand at each.
use Rattle.path_delays.proofs.Vocabulary.{◌≡◌, ◌≢◌, ◌+ℤ◌, ℕ, ◌⊎◌, List, [], ◌∷◌, ◌++◌, take, get_or, length, ◌<◌, ◌+◌, Contains, Option, Some, None, inl, inr, refl, sym, ◌∙◌, ap, subst, arith, option_map, cases_eq, ints, take_more, Contains-push, Contains-push_cases, Contains-append_left, same_Some, Signal, Follows, Reads, Sums, AreAround, IsAround, either_sums, joined_sums, merged_sums, sums_through, along, AreCarried, AreExtremesIfAny, AreShownBy, Comes, IsJoinedAt, StandsAt}
use Rattle.path_delays.proofs.SumLemmas.{around_itself, around_joined, around_known, min_cases, max_cases}

-- sums around sums that are around others are around those
around_around : (known : Option Sums) (between inner : Sums) → AreAround known between
    → IsAround between inner → AreAround known inner
around_around None between inner none around = none
around_around (Some sums) between inner outer around = grind (arith, ints)

-- what is around something is there
there : (known : Option Sums) (inner : Sums) → AreAround known inner
    → (sums : Sums) × (known ≡ Some sums) × IsAround sums inner
there None inner none = absurd none
there (Some sums) inner around = (sums, refl, around)

-- around others stays what is around them after the same delay
around_through : (sums inner delay : Sums) → IsAround sums inner
    → IsAround (sums_through sums delay) (sums_through inner delay)
around_through sums inner delay around = grind (arith, ints)

-- what two become is around what the first was around
either_known : (known found : Option Sums) (inner : Sums) → AreAround known inner
    → AreAround (either_sums known found) inner
either_known None found inner none = absurd none
either_known (Some sums) None inner around = around
either_known (Some sums) (Some more) inner around = around_known (Some sums) more inner around

-- and what the second was
either_found : (known found : Option Sums) (inner : Sums) → AreAround found inner
    → AreAround (either_sums known found) inner
either_found known None inner none = absurd none
either_found known (Some sums) inner around =
    around_around (Some (joined_sums known sums)) sums inner (around_joined known sums) around

-- what two become is shown where each of the two is
shown_merged : (Come : Sums → Type 0) (known found : Sums) → AreShownBy Come known
    → AreShownBy Come found → AreShownBy Come (merged_sums known found)
shown_merged Come known found was now = grind (arith, min_cases, max_cases)

shown_either : (Come : Sums → Type 0) (known found : Option Sums)
    → ((sums : Sums) → known ≡ Some sums → AreShownBy Come sums)
    → ((sums : Sums) → found ≡ Some sums → AreShownBy Come sums)
    → (sums : Sums) → either_sums known found ≡ Some sums → AreShownBy Come sums
shown_either Come known None was now sums here = was sums here
shown_either Come None (Some found) was now sums here =
    subst (AreShownBy Come) (same_Some found sums here) (now found refl)
shown_either Come (Some known) (Some found) was now sums here =
    grind (arith, same_Some, shown_merged)

-- what is shown by some is shown by more
shown_more : (Come More : Sums → Type 0) → ((one : Sums) → Come one → More one) → (sums : Sums)
    → AreShownBy Come sums → AreShownBy More sums
shown_more Come More more sums shown = grind (arith)

-- extremes are shown, and around all that comes; where nothing stands nothing comes
extremes_made : (Come : Sums → Type 0) (known : Option Sums)
    → ((sums : Sums) → known ≡ Some sums → AreShownBy Come sums)
    → ((one : Sums) → Come one → AreAround known one) → AreExtremesIfAny Come known
extremes_made Come None shown around = around
extremes_made Come (Some sums) shown around = record { shown = shown sums refl; around = around }

extremes_shown : (Come : Sums → Type 0) (known : Option Sums) → AreExtremesIfAny Come known
    → (sums : Sums) → known ≡ Some sums → AreShownBy Come sums
extremes_shown Come None none sums here = absurd cc
extremes_shown Come (Some known) are sums here =
    subst (AreShownBy Come) (same_Some known sums here) are.shown

extremes_around : (Come : Sums → Type 0) (known : Option Sums) → AreExtremesIfAny Come known
    → (one : Sums) → Come one → AreAround known one
extremes_around Come None none one comes = none one comes
extremes_around Come (Some known) are one comes = are.around one comes

-- the same have the same extremes
pub extremes_same : (Come Other : Sums → Type 0) (known : Option Sums)
    → ((one : Sums) → Come one → Other one) → ((one : Sums) → Other one → Come one)
    → AreExtremesIfAny Come known → AreExtremesIfAny Other known
extremes_same Come Other known to back are =
    grind (arith, extremes_made, shown_more, extremes_shown, extremes_around)

-- gates that follow one another, and one more at the end
Follows-push : (signals : List Signal) (first : ℕ) (gates : List ℕ) (last gate : ℕ)
    → Follows signals first gates last → Reads signals gate last
    → Follows signals first (gates ++ gate ∷ []) gate
Follows-push signals first [] last gate same reads =
    (subst (Reads signals gate) (sym same) reads, refl)
Follows-push signals first (next ∷ gates) last gate (here, rest) reads =
    (here, Follows-push signals next gates last gate rest reads)

module _ (signals : List Signal) (delay : ℕ → Sums) where
  -- one gate more adds its delay
  along-push : (start : Sums) (gates : List ℕ) (gate : ℕ)
      → along delay start (gates ++ gate ∷ []) ≡ sums_through (along delay start gates) (delay gate)
  along-push start [] gate = refl
  along-push start (next ∷ gates) gate =
      along-push (sums_through start (delay next)) gates gate

  -- what comes to a signal comes to a gate that reads it, after the gate's delay
  comes_through : (Starts : ℕ → Sums → Type 0) (read gate : ℕ) (sums : Sums)
      → Reads signals gate read → Comes signals delay Starts read sums
      → Comes signals delay Starts gate (sums_through sums (delay gate))
  comes_through Starts read gate sums reads comes = grind (arith, Follows-push, along-push)

  -- what starts comes
  comes_start : (Starts : ℕ → Sums → Type 0) (signal : ℕ) (start : Sums) → Starts signal start
      → Comes signals delay Starts signal start
  comes_start Starts signal start starts = grind (arith)

  -- what starts is shown
  pub shown_start : (Starts : ℕ → Sums → Type 0) (signal : ℕ) (start : Sums) → Starts signal start
      → AreShownBy (Comes signals delay Starts signal) start
  shown_start Starts signal start starts = record {
    least = (start, comes_start Starts signal start starts, refl);
    greatest = (start, comes_start Starts signal start starts, refl);
  }

  -- what is shown at a signal is so at a gate that reads it
  pub shown_through : (Starts : ℕ → Sums → Type 0) (read gate : ℕ) (sums : Sums)
      → Reads signals gate read → AreShownBy (Comes signals delay Starts read) sums
      → AreShownBy (Comes signals delay Starts gate) (sums_through sums (delay gate))
  shown_through Starts read gate sums reads shown = record {
    least = (
      sums_through shown.least.0 (delay gate),
      comes_through Starts read gate shown.least.0 reads shown.least.1,
      ap (λ least. least +ℤ (delay gate).least) shown.least.2,
    );
    greatest = (
      sums_through shown.greatest.0 (delay gate),
      comes_through Starts read gate shown.greatest.0 reads shown.greatest.1,
      ap (λ greatest. greatest +ℤ (delay gate).greatest) shown.greatest.2,
    );
  }

  -- also where nothing may stand there
  pub shown_passed : (Starts : ℕ → Sums → Type 0) (read gate : ℕ) (known : Option Sums)
      → Reads signals gate read
      → ((sums : Sums) → known ≡ Some sums → AreShownBy (Comes signals delay Starts read) sums)
      → (sums : Sums) → option_map (λ (one : Sums). sums_through one (delay gate)) known ≡ Some sums
      → AreShownBy (Comes signals delay Starts gate) sums
  shown_passed Starts read gate None reads shown sums none = absurd cc
  shown_passed Starts read gate (Some known) reads shown sums here =
      subst (AreShownBy (Comes signals delay Starts gate))
      (same_Some (sums_through known (delay gate)) sums here)
      (shown_through Starts read gate known reads (shown known refl))

  -- nothing stands where nothing has begun
  pub carried_none : (Starts Begun : ℕ → Sums → Type 0) (Handed : ℕ → ℕ → Type 0)
      (at : ℕ → Option Sums) → ((signal : ℕ) (start : Sums) → Begun signal start → ⊥)
      → ((signal : ℕ) → at signal ≡ None) → AreCarried signals delay Starts Begun Handed at
  carried_none Starts Begun Handed at never none = grind (arith)

  -- the same sums are carried where no more has begun, and no more is handed on
  pub carried_same : (Starts Begun Later : ℕ → Sums → Type 0) (Handed Now : ℕ → ℕ → Type 0)
      (old new : ℕ → Option Sums)
      → ((signal : ℕ) (start : Sums) → Starts signal start → Later signal start
      → Begun signal start) → ((read gate : ℕ) (sums : Sums) → old read ≡ Some sums → Now read gate
      → Reads signals gate read → Handed read gate) → ((signal : ℕ) → new signal ≡ old signal)
      → AreCarried signals delay Starts Begun Handed old
      → AreCarried signals delay Starts Later Now new
  carried_same Starts Begun Later Handed Now old new back fewer same carried = record {
    shown = λ signal sums here. carried.shown signal sums (sym (same signal) ∙ here);
    started = λ signal start starts later. subst (λ o. AreAround o start) (sym (same signal))
        (carried.started signal start starts (back signal start starts later));
    handed = λ read gate now reads sums here.
        let was : old read ≡ Some sums = sym (same read) ∙ here in
        subst (λ o. AreAround o (sums_through sums (delay gate))) (sym (same gate))
        (carried.handed read gate (fewer read gate sums was now reads) reads sums was);
  }

  -- what a signal hands to a gate counted, or counts in what is joined there
  pub record IsHandedBy (Handed : ℕ → ℕ → Type 0) (signal : ℕ) (found : Option Sums)
      (old : ℕ → Option Sums) (read gate : ℕ) : Type 0 where
    pub apart : read ≢ signal
    pub counts : Handed read gate ⊎ ((gate ≡ signal) × ((sums : Sums) → old read ≡ Some sums
        → AreAround found (sums_through sums (delay gate))))

  module _ (Starts Begun Later : ℕ → Sums → Type 0) (Handed Now : ℕ → ℕ → Type 0) (signal : ℕ)
      (found : Option Sums) (old new : ℕ → Option Sums)
      (joined : IsJoinedAt signal found old new) where
    -- what was around something still is
    kept : (one : ℕ) (inner : Sums) → AreAround (old one) inner → AreAround (new one) inner
    kept one inner around = grind (arith, cases_eq, either_known)

    -- and so is what is found
    found_counts : (inner : Sums) → AreAround found inner → AreAround (new signal) inner
    found_counts inner around = subst (λ o. AreAround o inner) (sym joined.here)
        (either_found (old signal) found inner around)

    -- more comes to one signal, which hasn't handed on anything yet
    pub carried_joined : ((one : ℕ) (start : Sums) → Starts one start → Later one start
        → Begun one start ⊎ ((one ≡ signal) × AreAround found start))
        → ((sums : Sums) → found ≡ Some sums → AreShownBy (Comes signals delay Starts signal) sums)
        → ((read gate : ℕ) → Now read gate → Reads signals gate read
        → IsHandedBy Handed signal found old read gate)
        → AreCarried signals delay Starts Begun Handed old
        → AreCarried signals delay Starts Later Now new
    carried_joined begins shown hands before = record {
      shown = λ one sums here. elim (cases_eq one signal) [
        | inl same ↦ subst (λ n. AreShownBy (Comes signals delay Starts n) sums) (sym same)
            (shown_either (Comes signals delay Starts signal) (old signal) found
            (before.shown signal) shown sums (sym joined.here ∙ (ap new (sym same) ∙ here)))
        | inr apart ↦ before.shown one sums (sym (joined.others one apart) ∙ here)
      ];
      started = λ one start starts later. elim (begins one start starts later) [
        | inl was ↦ kept one start (before.started one start starts was)
        | inr now ↦ subst (λ n. AreAround (new n) start) (sym now.0) (found_counts start now.1)
      ];
      handed = λ read gate now reads sums here.
          let given = hands read gate now reads in
          let was : old read ≡ Some sums = sym (joined.others read given.apart) ∙ here in
          elim given.counts [
            | inl earlier ↦ kept gate (sums_through sums (delay gate))
                (before.handed read gate earlier reads sums was)
            | inr last ↦ subst (λ n. AreAround (new n) (sums_through sums (delay gate)))
                (sym last.0) (found_counts (sums_through sums (delay gate)) (last.1 sums was))
          ];
    }

  -- a gate takes what stands at all that it reads, after its delay
  module _ (Starts : ℕ → Sums → Type 0) (at : ℕ → Option Sums) (gate : ℕ) (IsRead : ℕ → Type 0)
      (known : Option Sums) (are : AreExtremesIfAny (StandsAt at IsRead) known) where
    abbrev after : Option Sums
    after = option_map (λ (one : Sums). sums_through one (delay gate)) known

    -- that is shown where what stands there is
    pub gate_shown : ((read : ℕ) → IsRead read → Reads signals gate read)
        → ((read : ℕ) (sums : Sums) → at read ≡ Some sums
        → AreShownBy (Comes signals delay Starts read) sums)
        → (sums : Sums) → after ≡ Some sums → AreShownBy (Comes signals delay Starts gate) sums
    gate_shown reads shown = by known are
      where
        by : (o : Option Sums) → AreExtremesIfAny (StandsAt at IsRead) o → (sums : Sums)
            → option_map (λ (one : Sums). sums_through one (delay gate)) o ≡ Some sums
            → AreShownBy (Comes signals delay Starts gate) sums
        by None none sums here = absurd cc
        by (Some found) is sums here =
            let (low, (first, is_first, at_first), least) = is.shown.least in
            let (high, (last, is_last, at_last), greatest) = is.shown.greatest in
            let from_low =
            shown_through Starts first gate low (reads first is_first) (shown first low at_first) in
            let from_high =
            shown_through Starts last gate high (reads last is_last) (shown last high at_last) in
            subst (AreShownBy (Comes signals delay Starts gate))
            (same_Some (sums_through found (delay gate)) sums here)
            (record {
              least = (
                from_low.least.0,
                from_low.least.1,
                from_low.least.2 ∙ ap (λ time. time +ℤ (delay gate).least) least,
              );
              greatest = (
                from_high.greatest.0,
                from_high.greatest.1,
                from_high.greatest.2 ∙ ap (λ time. time +ℤ (delay gate).greatest) greatest,
              );
            })

    -- and around what each of them hands on
    pub gate_around : (read : ℕ) → IsRead read → (sums : Sums) → at read ≡ Some sums
        → AreAround after (sums_through sums (delay gate))
    gate_around read is_one sums stands = by known are
      where
        by : (o : Option Sums) → AreExtremesIfAny (StandsAt at IsRead) o
            → AreAround (option_map (λ (one : Sums). sums_through one (delay gate)) o)
            (sums_through sums (delay gate))
        by None none = none sums (read, is_one, stands)
        by (Some found) is =
            around_through found sums (delay gate) (is.around sums (read, is_one, stands))

  module _ (Starts Begun : ℕ → Sums → Type 0) (Handed : ℕ → ℕ → Type 0) (at : ℕ → Option Sums)
      (carried : AreCarried signals delay Starts Begun Handed at)
      (begun : (signal : ℕ) (start : Sums) → Starts signal start → Begun signal start)
      (IsDone : ℕ → Type 0)
      (back : (read gate : ℕ) → Reads signals gate read → IsDone gate → IsDone read)
      (all : (read gate : ℕ) (sums : Sums) → IsDone read → at read ≡ Some sums
      → Reads signals gate read → Handed read gate) where
    -- what leads to a signal that is done is so too
    first_done : (first : ℕ) (gates : List ℕ) (last : ℕ) → IsDone last
        → Follows signals first gates last → IsDone first
    first_done first [] last done same = subst IsDone (sym same) done
    first_done first (gate ∷ gates) last done (reads, rest) =
        back first gate reads (first_done gate gates last done rest)

    -- no gates lead beyond what stands at their end
    beyond : (first : ℕ) (gates : List ℕ) (last : ℕ) (start : Sums) → IsDone last
        → AreAround (at first) start → Follows signals first gates last
        → AreAround (at last) (along delay start gates)
    beyond first [] last start done around same = subst (λ n. AreAround (at n) start) same around
    beyond first (gate ∷ gates) last start done around (reads, rest) =
        let known = there (at first) start around in
        let before = first_done first (gate ∷ gates) last done (reads, rest) in
        beyond gate gates last (sums_through start (delay gate)) done
        (around_around (at gate) (sums_through known.0 (delay gate))
        (sums_through start (delay gate))
        (carried.handed first gate (all first gate known.0 before known.1 reads) reads known.0
        known.1) (around_through known.0 start (delay gate) known.2)) rest

    -- where all that is done is handed on, the least and the greatest of all that comes stand at
    -- each signal that is done
    pub carried_end : (signal : ℕ) → IsDone signal
        → AreExtremesIfAny (Comes signals delay Starts signal) (at signal)
    carried_end signal done = extremes_made (Comes signals delay Starts signal) (at signal)
        (carried.shown signal) (λ one comes. subst (AreAround (at signal)) comes.ends
        (beyond comes.first comes.gates signal comes.start done
        (carried.started comes.first comes.start comes.starts
        (begun comes.first comes.start comes.starts)) comes.follows))

-- where there are none, nothing stands at any signal
pub nothing_at : (at : ℕ → Option Sums) (IsOne : ℕ → Type 0)
    → AreExtremesIfAny (StandsAt at IsOne) None → (signal : ℕ) → IsOne signal → at signal ≡ None
nothing_at at IsOne none signal is_one = by (at signal) refl
  where
    by : (known : Option Sums) → at signal ≡ known → at signal ≡ None
    by None here = here
    by (Some sums) here = absurd (none sums (signal, is_one, here))

-- the least and the greatest with those of one signal more
pub extremes_next : (at : ℕ → Option Sums) (signals : List ℕ) (signal : ℕ) (known : Option Sums)
    → AreExtremesIfAny (StandsAt at (Contains signals)) known
    → AreExtremesIfAny (StandsAt at (Contains (signals ++ signal ∷ [])))
    (either_sums known (at signal))
extremes_next at signals signal known are = extremes_made More (either_sums known (at signal))
    (shown_either More known (at signal)
    (λ sums is. shown_more (StandsAt at (Contains signals)) More
    (λ one (other, listed, stands).
    (other, Contains-append_left signals (signal ∷ []) other listed, stands)) sums
    (extremes_shown (StandsAt at (Contains signals)) known are sums is))
    (λ sums is. record {
      least = (sums, (signal, Contains-push signals signal, is), refl);
      greatest = (sums, (signal, Contains-push signals signal, is), refl);
    }))
    (λ one (other, listed, stands). elim (Contains-push_cases signals signal other listed) [
      | inl before ↦ either_known known (at signal) one
          (extremes_around (StandsAt at (Contains signals)) known are one (other, before, stands))
      | inr last ↦ either_found known (at signal) one
          (subst (λ o. AreAround o one) (sym (ap at last ∙ stands)) (around_itself one))
    ])
  where
    More : Sums → Type 0
    More = StandsAt at (Contains (signals ++ signal ∷ []))

-- the extremes of extremes are those of all that comes
pub extremes_of_extremes : (at : ℕ → Option Sums) (IsOne : ℕ → Type 0)
    (Come : ℕ → Sums → Type 0) (known : Option Sums)
    → ((signal : ℕ) → AreExtremesIfAny (Come signal) (at signal))
    → AreExtremesIfAny (StandsAt at IsOne) known
    → AreExtremesIfAny (λ sums. (signal : ℕ) × IsOne signal × Come signal sums) known
extremes_of_extremes at IsOne Come known each are =
    extremes_made (λ sums. (signal : ℕ) × IsOne signal × Come signal sums) known shown
    (λ one (signal, is_one, comes).
    let stood = there (at signal) one (extremes_around (Come signal) (at signal) (each signal) one
    comes) in
    around_around known stood.0 one
    (extremes_around (StandsAt at IsOne) known are stood.0 (signal, is_one, stood.1)) stood.2)
  where
    shown : (sums : Sums) → known ≡ Some sums
        → AreShownBy (λ sums. (signal : ℕ) × IsOne signal × Come signal sums) sums
    shown sums is =
        let by = extremes_shown (StandsAt at IsOne) known are sums is in
        let (low, (first, is_first, at_first), least) = by.least in
        let (high, (last, is_last, at_last), greatest) = by.greatest in
        let from_low = extremes_shown (Come first) (at first) (each first) low at_first in
        let from_high = extremes_shown (Come last) (at last) (each last) high at_last in
        record {
          least = (
            from_low.least.0,
            (first, is_first, from_low.least.1),
            from_low.least.2 ∙ least,
          );
          greatest = (
            from_high.greatest.0,
            (last, is_last, from_high.greatest.1),
            from_high.greatest.2 ∙ greatest,
          );
        }

-- a list that is taken one item further has no other than that
pub listed_next : (signals : List ℕ) (place one : ℕ) → place < length signals
    → Contains (take (place + 1) signals) one
    → Contains (take place signals) one ⊎ (one ≡ get_or signals place 0)
listed_next signals place one low listed =
    elim (Contains-push_cases (take place signals) (get_or signals place 0) one
    (subst (λ list. Contains list one) (take_more signals place 0 low) listed)) [
      | inl earlier ↦ inl earlier
      | inr last ↦ inr (sym last)
    ]

-- the least and the greatest at a single signal
pub extremes_single : (at : ℕ → Option Sums) (signal : ℕ)
    → AreExtremesIfAny (StandsAt at (Contains (signal ∷ []))) (at signal)
extremes_single at signal =
    subst (AreExtremesIfAny (StandsAt at (Contains (signal ∷ [])))) (either_none (at signal))
    (extremes_next at [] signal None
    (λ one (other, (place, within, here), stands). absurd (omega arith)))
  where
    either_none : (found : Option Sums) → either_sums None found ≡ found
    either_none None = refl
    either_none (Some sums) = refl
