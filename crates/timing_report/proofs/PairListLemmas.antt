-- From a list of all joined pairs to the definition over paths.
use Rattle.timing_report.proofs.Vocabulary.{ℕ, ◌≡◌, ◌<◌, List, length, get_or, All, sym, subst, arith, ℤ, ◌≤ℤ◌, ints, Circuit, Tech, PairDelay, IsPath, least_delay, greatest_delay, ListsPairs, IsSmallPair, HasSmallDelays, IsFirstOf, IsTooQuick, Needs, IsEnoughForAll, IsZeroSkewOf}
use Rattle.cts_model.specs.declared.timing.ZeroSkew.{ZeroSkew}
use Rattle.cts_model.specs.declared.timing.ZeroSkew.TheVariants.{Fails, Setup}
use Rattle.cts_model.specs.Vocabulary.{IsPairDelay, ComesBefore, IsFirstPair, FailsHold, NeedsPeriod, IsEnough, IsZeroSkew}
use Rattle.cts_model.specs.declared.timing.ZeroSkew.TheVariants.{Floor}
use Rattle.cts_model.proofs.PairOrder.{earlier_place}
use Rattle.timing_report.proofs.ListedPeriods.{small_at}

-- the pair that a path joins, where it is listed, and how the path's delays lie in its own
record IsListedPath (circuit : Circuit) (tech : Tech) (pairs : List PairDelay) (from to : ℕ)
    (path : List ℕ) : Type 0 where
  place : ℕ
  pair : PairDelay
  within : place < length pairs
  here : get_or pairs place pair ≡ pair
  from_is : pair.from ≡ from
  to_is : pair.to ≡ to
  least : pair.least ≤ℤ least_delay circuit tech path
  greatest : greatest_delay circuit tech path ≤ℤ pair.greatest

module _ {circuit : Circuit} {tech : Tech} {pairs : List PairDelay}
    (lists : ListsPairs circuit tech pairs) where
  -- the delays of the pair at a place
  delays_at : (place : ℕ) (pair : PairDelay) → place < length pairs → get_or pairs place pair ≡ pair
      → IsPairDelay circuit tech pair
  delays_at place pair within here =
      subst (IsPairDelay circuit tech) here (lists.delays place pair within)

  -- every path is that of a listed pair
  listed_path : (from to : ℕ) (path : List ℕ) → IsPath circuit from to path
      → IsListedPath circuit tech pairs from to path
  listed_path from to path is_path =
      let found = lists.all from to path is_path in
      let pair : PairDelay = found.1 in
      let delays : IsPairDelay circuit tech pair = delays_at found.0 pair found.2 found.3 in
      let its_path : IsPath circuit pair.from pair.to path =
      subst (λ t. IsPath circuit pair.from t path) (sym found.4.1)
      (subst (λ f. IsPath circuit f to path) (sym found.4.0) is_path) in
      record {
        place = found.0;
        pair = pair;
        within = found.2;
        here = found.3;
        from_is = found.4.0;
        to_is = found.4.1;
        least = delays.least path its_path;
        greatest = delays.greatest path its_path;
      }

  -- the first pair of the list with a property is the first pair of the circuit whose paths show it
  first_of_all : (Property : PairDelay → Type 0) (Shows : ℕ → ℕ → Type 0) (pair : PairDelay)
      → IsFirstOf Property pairs pair → Shows pair.from pair.to
      → ((from to : ℕ) → Shows from to → (path : List ℕ) × IsPath circuit from to path
      × ((listed : PairDelay) → listed.least ≤ℤ least_delay circuit tech path
      → greatest_delay circuit tech path ≤ℤ listed.greatest → (place : ℕ) → place < length pairs
      → get_or pairs place listed ≡ listed → Property listed)) → IsFirstPair Shows pair.from pair.to
  first_of_all Property Shows pair is_first here shown = record {
    here = here;
    first = λ from to before shows.
        let found = shown from to shows in
        let other = listed_path from to found.0 found.1 in
        let comes : ComesBefore other.pair.from other.pair.to pair.from pair.to =
        rw (other.from_is, other.to_is) before in
        let earlier = earlier_place pairs lists.ordered is_first.place other.place pair other.pair
        is_first.within is_first.here other.within other.here comes in
        is_first.first other.place other.pair earlier
        (subst Property (sym other.here)
        (found.2 other.pair other.least other.greatest other.place other.within other.here));
  }

  -- what is enough for the list is enough for every path
  enough_for_paths : (period : ℤ) → IsEnoughForAll tech pairs period → IsEnough circuit tech period
  enough_for_paths period enough = record {
    hold = λ from to path is_path.
        let listed = listed_path from to path is_path in
        let meets = rw listed.here at (enough.hold listed.place listed.pair listed.within) in
        let below = listed.least in
        omega (arith, ints);
    setup = λ from to path is_path.
        let listed = listed_path from to path is_path in
        let needs = rw listed.here at (enough.setup listed.place listed.pair listed.within) in
        let below = listed.greatest in
        omega (arith, ints);
  }

  -- the list's answer is the circuit's
  pub least_of_list : (outcome : ZeroSkew) → IsZeroSkewOf tech pairs outcome
      → IsZeroSkew circuit tech outcome
  least_of_list (Fails pair) is_first =
      let delays = delays_at is_first.place pair is_first.within is_first.here in
      let quick = is_first.holds in
      record {
        delays = delays;
        first = first_of_all (IsTooQuick tech.hold) (FailsHold circuit tech) pair is_first
            (delays.least_shown.0, delays.least_shown.1, rw delays.least_shown.2 quick)
            (λ from to fails. (
              fails.0,
              fails.1,
              λ listed least greatest place within here. let late = fails.2 in omega (arith, ints),
            ));
      }
  least_of_list (Floor value) floor =
      record { enough = enough_for_paths value floor.enough; is_floor = floor.is_floor }
  least_of_list (Setup value pair) most =
      let delays = delays_at most.first.place pair most.first.within most.first.here in
      record {
        enough = enough_for_paths value most.enough;
        above_floor = most.above_floor;
        delays = delays;
        first =
            first_of_all (Needs tech.setup value) (NeedsPeriod circuit tech value) pair most.first (
              delays.greatest_shown.0,
              delays.greatest_shown.1,
              rw delays.greatest_shown.2 most.first.holds,
            )
            (λ from to needs. (
              needs.0,
              needs.1,
              λ listed least greatest place within here.
                  let most_needed = rw here at (most.enough.setup place listed within) in
                  let needed = needs.2 in
                  omega (arith, ints),
            ));
      }

-- the pair that an answer names has small delays where all pairs have
pub small_of_list : (tech : Tech) (pairs : List PairDelay) (outcome : ZeroSkew)
    → All IsSmallPair pairs → IsZeroSkewOf tech pairs outcome → HasSmallDelays outcome
small_of_list tech pairs (Fails pair) small is_first =
    small_at pairs is_first.place pair is_first.within is_first.here small
small_of_list tech pairs (Floor value) small floor = tt
small_of_list tech pairs (Setup value pair) small most =
    small_at pairs most.first.place pair most.first.within most.first.here small
