-- The pairs of registers that some path joins, each with its delays in ticks.
use Rattle.std.specs.Prelude.{◌≡◌, ◌<◌, ℕ, List, length, All, AllPairs, Any}
use Rattle.cts_model.specs.Types.{Circuit, Tech, PairDelay, ZeroSkew, Fails, Setup}
use Rattle.cts_model.specs.declared.timing.ZeroSkew.TheVariants.{Floor}
use Rattle.cts_model.specs.table.Tables.{IsWithin}
use Rattle.cts_model.specs.netlist.Paths.{IsPath}
use Rattle.cts_model.specs.timing.EqualArrivals.{IsPairDelay, ComesBefore}

-- each pair is listed before those that come after it
abbrev pub AreOrdered : List PairDelay → Type 0
AreOrdered pairs =
    AllPairs (λ first second. ComesBefore first.from first.to second.from second.to) pairs

-- the pair of the two registers is listed
abbrev pub IsListed : (from to : ℕ) → List PairDelay → Type 0
IsListed from to pairs = Any (λ pair. (pair.from ≡ from) × (pair.to ≡ to)) pairs

-- each joined pair once, in order, and no other pair
pub record ListsPairs (circuit : Circuit) (tech : Tech) (pairs : List PairDelay) : Type 0 where
  pub ordered : AreOrdered pairs
  pub delays : All (IsPairDelay circuit tech) pairs
  pub all : (from to : ℕ) (path : List ℕ) → IsPath circuit from to path → IsListed from to pairs

-- more pairs than this are joined by a path: here are so many, each once
pub record JoinsMoreThan (circuit : Circuit) (limit : ℕ) : Type 0 where
  pub pairs : List (ℕ × ℕ)
  pub ordered : AllPairs (λ first second. ComesBefore first.0 first.1 second.0 second.1) pairs
  pub joined : All (λ pair. (path : List ℕ) × IsPath circuit pair.0 pair.1 path) pairs
  pub more : limit < length pairs

-- the delays of a pair are from 0 to below 66,000,000,000, as those of gates and a register within
-- the limits of a circuit and a table are
pub record IsSmallPair (pair : PairDelay) : Type 0 where
  pub least : IsWithin 0 65999999999 pair.least
  pub greatest : IsWithin 0 65999999999 pair.greatest

-- the pair that an outcome names, if any, has such delays
abbrev pub HasSmallDelays : ZeroSkew → Type 0
HasSmallDelays (Fails pair) = IsSmallPair pair
HasSmallDelays (Floor value) = Unit {0}
HasSmallDelays (Setup value pair) = IsSmallPair pair
