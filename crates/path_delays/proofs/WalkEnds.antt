-- Where a walk ends: no rank waits up to one, and each lane has the sums to all up to it that its
-- register reaches.
use Rattle.path_delays.proofs.Vocabulary.{◌≡◌, ◌<◌, ◌≤◌, ℕ, ◌+ℤ◌, pos, true, List, [], ◌∷◌, length, Option, Some, None, inl, inr, refl, sym, ◌∙◌, ap, subst, arith, option_and_then, slice_get, cases_lt, ints, same_Some, Circuit, Tech, Reads, least_through, greatest_through, least_delay, greatest_delay, Sums, Network, Reach, along, AreExtremesIfAny, Comes, gate_sums_at, start_sums, AreWithin, delay_limit, some_sums, sums_through, IsNetworkOf, limit_at, rank_at, lane_at, lanes_at, sums_at, waits_at, IsChain, IsReach, AllBelow, IsSpreadBelow, LanesBelow, StartsIn}
use Rattle.path_delays.proofs.CarryLemmas.{carried_end}
use Rattle.path_delays.proofs.LaneLemmas.{bounded_higher, bounded_some, lanes_there, some_is_there}
use Rattle.path_delays.proofs.NetworkDelays.{limit_within}

module _ (circuit : Circuit) (tech : Tech) where
  abbrev delay : ℕ → Sums
  delay = gate_sums_at circuit tech

  -- what the gates of a chain add up to
  along_is : (start : Sums) (gates : List ℕ) → along delay start gates
      ≡ record {
        least = start.least +ℤ least_through circuit tech gates;
        greatest = start.greatest +ℤ greatest_through circuit tech gates;
      }
  along_is start [] =
      let least : start.least ≡ start.least +ℤ pos 0 = omega (arith, ints) in
      let greatest : start.greatest ≡ start.greatest +ℤ pos 0 = omega (arith, ints) in
      λ i. record { least = least i; greatest = greatest i }
  along_is start (gate ∷ gates) =
      let least : (start.least +ℤ (delay gate).least) +ℤ least_through circuit tech gates
      ≡ start.least +ℤ ((delay gate).least +ℤ least_through circuit tech gates) =
      omega (arith, ints) in
      let greatest : (start.greatest +ℤ (delay gate).greatest)
      +ℤ greatest_through circuit tech gates ≡ start.greatest
      +ℤ ((delay gate).greatest +ℤ greatest_through circuit tech gates) = omega (arith, ints) in
      along_is (sums_through start (delay gate)) gates
      ∙ (λ i. record { least = least i; greatest = greatest i })

  module _ (registers : List ℕ) (from lane : ℕ) (here : slice_get registers lane ≡ Some from) where
    abbrev Starts : ℕ → Sums → Type 0
    Starts = StartsIn circuit tech registers lane

    -- both delays of a chain come to its end
    abbrev chain_sums : List ℕ → Sums
    chain_sums chain = record {
      least = least_delay circuit tech chain;
      greatest = greatest_delay circuit tech chain;
    }

    comes_of_chain : (signal : ℕ) (chain : List ℕ) → IsChain circuit from signal chain
        → Comes circuit.signals delay Starts signal (chain_sums chain)
    comes_of_chain signal [] none = absurd none
    comes_of_chain signal (first ∷ gates) (launches, follows) = grind (arith, along_is)

    -- and what comes there has a chain
    chain_of_comes : (signal : ℕ) (sums : Sums) → Comes circuit.signals delay Starts signal sums
        → (chain : List ℕ) × IsChain circuit from signal chain × (chain_sums chain ≡ sums)
    chain_of_comes signal sums comes =
        let (register, listed, launches, same) = comes.starts in
        let own : register ≡ from = same_Some register from (sym listed ∙ here) in (
          comes.first ∷ comes.gates,
          (subst (λ r. IsChain circuit r signal (comes.first ∷ comes.gates)) own
              (launches, comes.follows)),
          sym (along_is (start_sums tech) comes.gates)
              ∙ (ap (λ (start : Sums). along delay start comes.gates) (sym same) ∙ comes.ends),
        )

    -- so the least and the greatest of what comes are those of all chains
    reach_of_comes : (signal : ℕ) (known : Option Sums)
        → AreExtremesIfAny (Comes circuit.signals delay Starts signal) known
        → ((sums : Sums) → known ≡ Some sums → AreWithin delay_limit sums)
        → IsReach circuit tech from signal known
    reach_of_comes signal None none small = λ chain is_chain.
        none (chain_sums chain) (comes_of_chain signal chain is_chain)
    reach_of_comes signal (Some sums) are small =
        let least = chain_of_comes signal are.shown.least.0 are.shown.least.1 in
        let greatest = chain_of_comes signal are.shown.greatest.0 are.shown.greatest.1 in
        record {
          shown = record {
            least = (
              least.0,
              least.1,
              ap (λ (one : Sums). one.least) least.2 ∙ are.shown.least.2,
            );
            greatest = (
              greatest.0,
              greatest.1,
              ap (λ (one : Sums). one.greatest) greatest.2 ∙ are.shown.greatest.2,
            );
          };
          least = λ chain is_chain.
              (are.around (chain_sums chain) (comes_of_chain signal chain is_chain)).least;
          greatest = λ chain is_chain.
              (are.around (chain_sums chain) (comes_of_chain signal chain is_chain)).greatest;
          within = small sums refl;
        }

    -- where no rank waits up to one, the sums in the lane are those up to it
    pub reach_shown : (network : Network) → IsNetworkOf circuit tech network → (reach : Reach)
        (rank : ℕ) → lane < length registers → lane < 16
        → IsSpreadBelow circuit tech network registers (length registers) rank reach
        → (top : ℕ) → ((other : ℕ) → waits_at reach other ≡ true → top < other) → (signal : ℕ)
        → rank_at network signal ≤ top
        → IsReach circuit tech from signal (sums_at reach lane signal)
    reach_shown network is reach rank within low spread top above signal below =
        reach_of_comes signal (sums_at reach lane signal)
        (carried_end circuit.signals delay Starts (LanesBelow (length registers) lane)
        (AllBelow network rank) (sums_at reach lane) (spread.carried lane low)
        (λ one start starts. within) (λ one. rank_at network one ≤ top)
        (λ read gate reads up_to. omega (arith, is.ranks.rising gate read reads)) all signal below)
        small
      where
        -- all that is reached up to the rank has handed on its sums
        all : (read gate : ℕ) (sums : Sums) → rank_at network read ≤ top
            → sums_at reach lane read ≡ Some sums → Reads circuit.signals gate read
            → rank_at network read < rank
        all read gate sums up_to there reads = elim (cases_lt (rank_at network read) rank) [
          | inl before ↦ before
          | inr later ↦
              let waits = spread.waits read (lanes_there (lanes_at reach read) lane sums there)
              later in
              absurd (omega (arith, above (rank_at network read) waits))
        ]

        limit : ℕ
        limit = limit_at network (rank_at network signal)

        small : (sums : Sums) → sums_at reach lane signal ≡ Some sums → AreWithin delay_limit sums
        small sums there = at (lane_at reach lane signal) refl there
          where
            at : (known : Option Sums) → lane_at reach lane signal ≡ known
                → option_and_then some_sums known ≡ Some sums → AreWithin delay_limit sums
            at None none some = absurd cc
            at (Some entry) stands some =
                let same = some_is_there entry sums some in
                subst (AreWithin delay_limit) same.0
                (bounded_some delay_limit entry (omega arith)
                (bounded_higher limit delay_limit entry
                (limit_within circuit tech network is (rank_at network signal))
                (spread.limited lane signal entry low stands)) same.1)
