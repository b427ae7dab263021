-- Where a walk starts: at nothing, at a signal that is marked in a lane, and at all that a register
-- launches.
use Rattle.path_delays.proofs.Vocabulary.{◌≡◌, ◌≢◌, ◌+◌, ◌<◌, ◌≤◌, ℕ, List, [], length, take, get_or, Contains, Option, Some, None, inl, inr, ◌⊎◌, refl, sym, ◌∙◌, ap, subst, arith, IsSome, option_and_then, option_map, unwrap_or, slice_get, cases_eq, cases_lt, take_all, Contains-get_or, same_Some, Circuit, Tech, Launches, Reads, Lanes, Sums, Network, Reach, AreCarried, AreLaunchedBy, AreShownBy, Comes, IsJoinedAt, gate_sums_at, start_sums, AllBounded, lane_of, AreAround, AreBounded, AreWithin, either_sums, merged_sums, no_sums, some_sums, IsNetworkOf, limit_at, limit_of, rank_at, lane_at, lanes_at, sums_at, HasReachRoom, IsCleared, IsHandedOn, IsMarked, AllBelow, AllBelowBut, BegunIn, IsSpread, IsSpreadBelow, StartsIn}
use Rattle.path_delays.proofs.CarryLemmas.{IsHandedBy, carried_joined, carried_none, carried_same, listed_next, shown_start}
use Rattle.path_delays.proofs.SumLemmas.{around_itself}
use Rattle.path_delays.proofs.LaneLemmas.{bounded_joined, none_missing, some_is, some_mapped, some_merged, some_within}
use Rattle.path_delays.proofs.LaunchLemmas.{launched_lowest, launched_within}
use Rattle.path_delays.proofs.NetworkDelays.{limit_within}
use Rattle.path_delays.proofs.Rooms.{within_higher}
use Rattle.path_delays.proofs.WalkSteps.{IsSpread-on}

-- the signal gets sums in a lane and hands them on
abbrev pub IsStarted : Network → (lane signal : ℕ) → Sums → Reach → Reach → Type 0
IsStarted network lane signal sums old new =
    (between : Reach) × IsMarked lane signal sums old between
    × IsHandedOn network signal between new

-- what stood there, or nothing, is bounded
stood_bounded : (limit : ℕ) (known : Option Sums)
    → ((entry : Sums) → known ≡ Some entry → AreBounded limit entry)
    → AreBounded limit (unwrap_or known no_sums)
stood_bounded limit None before = inr (none_missing limit)
stood_bounded limit (Some entry) before = before entry refl

-- and is there where it was
stood_some : (known : Option Sums)
    → some_sums (unwrap_or known no_sums) ≡ option_and_then some_sums known
stood_some None = refl
stood_some (Some entry) = refl

-- what stands at a signal that is marked is bounded where what stood there was
marked_within : (limit : ℕ) (old new : Reach) (lane signal : ℕ) (sums : Sums)
    → IsMarked lane signal sums old new → AreBounded limit sums → (other : ℕ) → other < 16
    → ((entry : Sums) → lane_at old other signal ≡ Some entry → AreBounded limit entry)
    → (entry : Sums) → lane_at new other signal ≡ Some entry → AreBounded limit entry
marked_within limit old new lane signal sums marked bounded other few before entry here =
    elim (cases_eq other lane) [
      | inl same ↦
          let stood : Sums = unwrap_or (lane_at old lane signal) no_sums in
          let equal : Some (merged_sums stood sums) ≡ Some entry =
          sym marked.at ∙ (ap (λ k. lane_at new k signal) (sym same) ∙ here) in
          subst (AreBounded limit) (same_Some (merged_sums stood sums) entry equal)
          (bounded_joined limit (Some stood) sums (λ was is. subst (AreBounded limit)
          (same_Some stood was is) (stood_bounded limit (lane_at old lane signal)
          (λ one there. before one (ap (λ k. lane_at old k signal) same ∙ there)))) bounded)
      | inr apart ↦
          let stood : Sums = unwrap_or (lane_at old other signal) no_sums in
          subst (AreBounded limit)
          (same_Some stood entry (sym (marked.beside other few apart) ∙ here))
          (stood_bounded limit (lane_at old other signal) before)
    ]

-- so all its lanes are
pub marked_bounded : (old new : Reach) (lane signal : ℕ) (sums : Sums)
    → AreWithin (limit_of old) sums → IsMarked lane signal sums old new
    → ((given : Lanes) → lanes_at old signal ≡ Some given → AllBounded (limit_of old) given)
    → (given : Lanes) → lanes_at new signal ≡ Some given → AllBounded (limit_of new) given
marked_bounded old new lane signal sums within marked before given here other low =
    subst (λ n. AreBounded n (lane_of given other)) (sym marked.room.limit)
    (marked_within (limit_of old) old new lane signal sums marked (inl within) other low
    (λ entry there. at (lanes_at old signal) refl entry there) (lane_of given other)
    (ap (option_map (λ (lanes : Lanes). lane_of lanes other)) here))
  where
    at : (known : Option Lanes) → lanes_at old signal ≡ known → (entry : Sums)
        → option_map (λ (lanes : Lanes). lane_of lanes other) (lanes_at old signal) ≡ Some entry
        → AreBounded (limit_of old) entry
    at None none entry equal = absurd (let missing = rw none at equal in cc)
    at (Some lanes) there entry equal = subst (AreBounded (limit_of old))
        (same_Some (lane_of lanes other) entry (rw there at equal)) (before lanes there other low)

-- what a register starts with is within the limit
pub start_bounded : (network : Network) (reach : Reach) (tech : Tech) → HasReachRoom network reach
    → AreWithin (limit_of reach) (start_sums tech)
start_bounded network reach tech room = grind (arith, within_higher)

-- nothing is listed in an empty list
none_listed : (one : ℕ) → Contains [] one → ⊥
none_listed one (k, inside, here) = absurd (omega arith)

module _ (circuit : Circuit) (tech : Tech) (network : Network)
    (is : IsNetworkOf circuit tech network) where
  abbrev delay : ℕ → Sums
  delay = gate_sums_at circuit tech

  -- nothing is reached: nothing is wrong
  pub IsSpread-none : (registers : List ℕ) (reach : Reach) → IsCleared reach
      → IsSpreadBelow circuit tech network registers 0 1 reach
  IsSpread-none registers reach clear = grind (arith, carried_none)

  -- what has begun is said in other words
  begun_same : (registers : List ℕ) (Begun Later : ℕ → ℕ → Sums → Type 0) (reach : Reach)
      → ((lane one : ℕ) (sums : Sums) → StartsIn circuit tech registers lane one sums
      → Later lane one sums → Begun lane one sums)
      → IsSpread circuit tech network registers Begun (AllBelow network 1) 1 reach
      → IsSpread circuit tech network registers Later (AllBelow network 1) 1 reach
  begun_same registers Begun Later reach back spread = record {
    limited = spread.limited;
    carried = λ lane low. carried_same circuit.signals delay (StartsIn circuit tech registers lane)
        (Begun lane) (Later lane) (AllBelow network 1) (AllBelow network 1) (sums_at reach lane)
        (sums_at reach lane) (back lane) (λ read gate sums here below reads. below)
        (λ signal. refl) (spread.carried lane low);
    waits = spread.waits;
    due = spread.due;
  }

  module _ (old new : Reach) (lane signal : ℕ) (low : lane < 16)
      (marked : IsMarked lane signal (start_sums tech) old new)
      (lowest : rank_at network signal ≡ 0) (registers : List ℕ)
      (starts : StartsIn circuit tech registers lane signal (start_sums tech))
      (Begun Later : ℕ → ℕ → Sums → Type 0)
      (more : (other one : ℕ) (sums : Sums) → Later other one sums
      → Begun other one sums ⊎ ((other ≡ lane) × (one ≡ signal)))
      (so_far : IsSpread circuit tech network registers Begun (AllBelow network 1) 1 old) where
    abbrev Starts : ℕ → ℕ → Sums → Type 0
    Starts = StartsIn circuit tech registers

    abbrev start : Sums
    start = start_sums tech

    abbrev limit : ℕ → ℕ
    limit number = limit_at network (rank_at network number)

    start_within : AreWithin (limit signal) start
    start_within = within_higher 1000000 (limit signal) start (omega arith)
        (record { least = tech.valid.least_within; greatest = tech.valid.greatest_within })

    -- what stands at other signals stays
    apart_same : (other number : ℕ) → number ≢ signal
        → lane_at new other number ≡ lane_at old other number
    apart_same other number differs =
        ap (option_map (λ (lanes : Lanes). lane_of lanes other)) (marked.others number differs)

    counted : (other : ℕ) → 1 ≤ rank_at network other → other ≢ signal
    counted other higher same = absurd (omega (arith, lowest, ap (rank_at network) same))

    limited : (other number : ℕ) (sums : Sums) → other < 16 → lane_at new other number ≡ Some sums
        → AreBounded (limit number) sums
    limited other number sums other_low here = elim (cases_eq number signal) [
      | inl same ↦ subst (λ n. AreBounded (limit n) sums) (sym same)
          (marked_within (limit signal) old new lane signal start marked (inl start_within) other
          other_low (λ entry. so_far.limited other signal entry other_low) sums
          (ap (lane_at new other) (sym same) ∙ here))
      | inr apart ↦ so_far.limited other number sums other_low
          (sym (apart_same other number apart) ∙ here)
    ]

    -- in its lane the start is joined at the signal
    joined_here : IsJoinedAt signal (Some start) (sums_at old lane) (sums_at new lane)
    joined_here = record {
      here =
          let stood : Sums = unwrap_or (lane_at old lane signal) no_sums in
          ap (option_and_then some_sums) marked.at
          ∙ (some_merged (limit signal) stood start
          (limit_within circuit tech network is (rank_at network signal))
          (stood_bounded (limit signal) (lane_at old lane signal)
          (λ entry. so_far.limited lane signal entry low)) (inl start_within)
          ∙ (ap (λ o. either_sums o (some_sums start)) (stood_some (lane_at old lane signal))
          ∙ ap (either_sums (sums_at old lane signal))
          (some_within (limit signal) start start_within)));
      others = λ other differs. ap (option_and_then some_sums) (apart_same lane other differs);
    }

    -- and in the others all stays
    same_beside : (other : ℕ) → other < 16 → other ≢ lane → (number : ℕ)
        → sums_at new other number ≡ sums_at old other number
    same_beside other few differs number = elim (cases_eq number signal) [
      | inl same ↦ subst (λ n. sums_at new other n ≡ sums_at old other n) (sym same)
          (ap (option_and_then some_sums) (marked.beside other few differs)
          ∙ stood_some (lane_at old other signal))
      | inr apart ↦ ap (option_and_then some_sums) (apart_same other number apart)
    ]

    -- it is reached
    marked_there : IsSome (lanes_at new signal)
    marked_there = some_mapped (λ lanes. lane_of lanes lane) (lanes_at new signal)
        (merged_sums (unwrap_or (lane_at old lane signal) no_sums) start) marked.at

    -- a signal that is started in a lane still has to hand on what stands there
    IsSpread-marked : IsSpread circuit tech network registers Later
        (AllBelowBut network 1 signal []) 1 new
    IsSpread-marked = record {
      limited = limited;
      carried = λ other other_low. elim (cases_eq other lane) [
        | inl same ↦ subst (λ k. AreCarried circuit.signals delay (Starts k) (Later k)
            (AllBelowBut network 1 signal []) (sums_at new k)) (sym same)
            (carried_joined circuit.signals delay (Starts lane) (Begun lane) (Later lane)
            (AllBelow network 1) (AllBelowBut network 1 signal []) signal (Some start)
            (sums_at old lane) (sums_at new lane) joined_here begins
            (λ sums is_start. subst (AreShownBy (Comes circuit.signals delay (Starts lane) signal))
            (same_Some start sums is_start)
            (shown_start circuit.signals delay (Starts lane) signal start starts)) hands
            (so_far.carried lane low))
        | inr differs ↦ carried_same circuit.signals delay (Starts other) (Begun other)
            (Later other) (AllBelow network 1) (AllBelowBut network 1 signal [])
            (sums_at old other) (sums_at new other)
            (λ one sums starts later. elim (more other one sums later) [
              | inl before ↦ before
              | inr here ↦ absurd (differs here.0)
            ])
            (λ read gate sums here (below, listed) reads. below)
            (same_beside other other_low differs)
            (so_far.carried other other_low)
      ];
      waits = λ number reached later. marked.waits (rank_at network number)
          ∙ so_far.waits number
          (subst (λ (o : Option Lanes). IsSome o) (marked.others number (counted number later))
          reached) later;
      due = λ other waits.
          let was = so_far.due other (sym (marked.waits other) ∙ waits) in
          record {
            after = was.after;
            gate = was.gate;
            here = was.here;
            reached = subst (λ (o : Option Lanes). IsSome o)
                (sym (marked.others was.gate
                (counted was.gate (omega (arith, was.after, was.here))))) was.reached;
          };
    }
      where
        begins : (one : ℕ) (sums : Sums) → Starts lane one sums → Later lane one sums
            → Begun lane one sums ⊎ ((one ≡ signal) × AreAround (Some start) sums)
        begins one sums (from, is_one, launches, same) later = elim (more lane one sums later) [
          | inl before ↦ inl before
          | inr here ↦ inr (
            here.1,
            subst (AreAround (Some start)) (sym same) (around_itself start),
          )
        ]

        hands : (read gate : ℕ) → AllBelowBut network 1 signal [] read gate
            → Reads circuit.signals gate read
            → IsHandedBy circuit.signals delay (AllBelow network 1) signal (Some start)
            (sums_at old lane) read gate
        hands read gate (below, listed) reads = record {
          apart = λ same. none_listed gate (listed same);
          counts = inl below;
        }

  -- a signal of the lowest rank that is started in a lane has handed on what stands there
  pub IsSpread-started : (old new : Reach) (lane signal : ℕ) → lane < 16
      → IsStarted network lane signal (start_sums tech) old new → signal < length circuit.signals
      → rank_at network signal ≡ 0 → (registers : List ℕ)
      → StartsIn circuit tech registers lane signal (start_sums tech)
      → (Begun Later : ℕ → ℕ → Sums → Type 0)
      → ((other one : ℕ) (sums : Sums) → Later other one sums
      → Begun other one sums ⊎ ((other ≡ lane) × (one ≡ signal)))
      → IsSpread circuit tech network registers Begun (AllBelow network 1) 1 old
      → IsSpread circuit tech network registers Later (AllBelow network 1) 1 new
  IsSpread-started old new lane signal low (between, marked, on) inside lowest registers starts
      Begun Later more so_far =
      let there = some_is (lanes_at between signal)
      (marked_there old between lane signal low marked lowest registers starts Begun Later more
      so_far) in
      IsSpread-on circuit tech network is registers Later between new 1 signal there.0 (omega arith)
      inside there.1
      (IsSpread-marked old between lane signal low marked lowest registers starts Begun Later more
      so_far) on

  -- the signals that the register of a lane launches, so far
  module _ (registers : List ℕ) (lane from : ℕ) (here : slice_get registers lane ≡ Some from)
      (launched : List ℕ) (all : AreLaunchedBy circuit from launched) where
    -- none yet
    pub begun_none : (reach : Reach) → IsSpreadBelow circuit tech network registers lane 1 reach
        → IsSpread circuit tech network registers (BegunIn lane (take 0 launched))
        (AllBelow network 1) 1 reach
    begun_none reach spread = grind (arith, begun_same, none_listed)

    -- one more
    pub begun_next : (old new : Reach) (place : ℕ) → lane < 16 → place < length launched
        → IsStarted network lane (get_or launched place 0) (start_sums tech) old new
        → IsSpread circuit tech network registers (BegunIn lane (take place launched))
        (AllBelow network 1) 1 old
        → IsSpread circuit tech network registers (BegunIn lane (take (place + 1) launched))
        (AllBelow network 1) 1 new
    begun_next old new place low inside started so_far =
        let signal = get_or launched place 0 in
        let launches : Launches circuit from signal =
        (all signal).0 (Contains-get_or launched place 0 inside) in
        IsSpread-started old new lane signal low started
        (launched_within circuit from signal launches)
        (launched_lowest circuit from signal network.order.items network.ranks.items is.ranks
        launches) registers (from, here, launches, refl) (BegunIn lane (take place launched))
        (BegunIn lane (take (place + 1) launched))
        (λ other one sums begun. elim begun [
          | inl before ↦ inl (inl before)
          | inr listed ↦ elim (listed_next launched place one inside listed.1) [
            | inl earlier ↦ inl (inr (listed.0, earlier))
            | inr last ↦ inr (listed.0, last)
          ]
        ]) so_far

    -- all of them
    pub begun_all : (reach : Reach) → IsSpread circuit tech network registers
        (BegunIn lane (take (length launched) launched)) (AllBelow network 1) 1 reach
        → IsSpreadBelow circuit tech network registers (lane + 1) 1 reach
    begun_all reach = grind (arith, begun_same, cases_lt, same_Some, take_all)
