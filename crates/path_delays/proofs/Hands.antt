-- Sums handed to one gate after the other.
use Rattle.path_delays.proofs.Vocabulary.{◌≡◌, ◌≢◌, ◌<◌, ℕ, true, false, length, Some, List, [], ◌∷◌, ◌++◌, Bool, not, refl, sym, ap, subst, arith, eq-eqb, ne_eqb, get_or, get_or_from_slice_get, slice_get-get_or, unwrap_or, Lanes, Network, Reach, NumberSet, Sums, no_sums, sums_through, has_number, IsInserted, AllBounded, lane_of, CanHand, GetsSums, IsJoined, IsMerged, IsPassed, row_at, rows_of, sums_before, table_limit, limit_of, delay_at, lane_at, lanes_at, rank_at, CanHandOn, HasReachRoom, IsSameRoom, IsHanded, IsMarked, AreHanded}
use Rattle.path_delays.specs.declared.lane_table.LaneTable.{LaneTable}
use Rattle.path_delays.proofs.LaneLemmas.{some_is}

-- there is room where there is as much as before
pub HasReachRoom-same : (network : Network) (old new : Reach) → IsSameRoom old new
    → HasReachRoom network old → HasReachRoom network new
HasReachRoom-same network old new same room = grind (arith)

-- one gate more
pub AreHanded-push : (network : Network) (given : Lanes) (gates : List ℕ) (gate : ℕ)
    (old between new : Reach) → AreHanded network given gates old between
    → IsHanded network given gate between new → AreHanded network given (gates ++ gate ∷ []) old new
AreHanded-push network given [] gate old between new same last =
    (new, subst (λ reach. IsHanded network given gate reach new) (sym same) last, refl)
AreHanded-push network given (first ∷ gates) gate old between new (next, here, rest) last =
    (next, here, AreHanded-push network given gates gate next between new rest last)

-- what stands at a signal that is reached is its row
pub row_given : (reach : Reach) (signal : ℕ) (given : Lanes) → lanes_at reach signal ≡ Some given
    → row_at (rows_of reach.lanes) signal ≡ given
row_given reach signal given here = grind (arith, get_or, get_or_from_slice_get)

-- its sums can be handed to a gate
pub CanHand-there : (network : Network) (reach : Reach) (from gate : ℕ) (delay : Sums)
    → CanHandOn network from reach → gate < length network.ranks.items
    → delay ≡ get_or network.delays.items gate delay
    → CanHand (limit_of reach) (rows_of reach.lanes) from gate delay
CanHand-there network reach from gate delay can reader read =
    let given = some_is (lanes_at reach from) can.reached in record {
      known = omega (arith, can.inside, can.room.lanes);
      reader = omega (arith, can.room.lanes);
      sums = subst (AllBounded (limit_of reach)) (sym (row_given reach from given.0 given.1))
          (can.small given.0 given.1);
      small = rw read (can.room.small_delays gate delay (omega (arith, can.room.delays)));
    }

-- what stands in a lane there
lane_there : (reach : Reach) (lane signal : ℕ) → has_number reach.reached.words.items signal ≡ true
    → signal < length (rows_of reach.lanes)
    → lane_at reach lane signal ≡ Some (lane_of (row_at (rows_of reach.lanes) signal) lane)
lane_there reach lane signal reached inside = grind (arith, slice_get-get_or)

-- where a signal is reached and gets sums, they stand there, and all else stays
module _ (old new : Reach) (signal : ℕ) (sums : ℕ → Sums)
    (reached : has_number new.reached.words.items signal ≡ true)
    (kept : (other : ℕ) → other ≢ signal → has_number new.reached.words.items other
    ≡ has_number old.reached.words.items other)
    (gets : GetsSums signal sums (rows_of old.lanes) (rows_of new.lanes)) where
  stands : (lane : ℕ) → lane < 16 → lane_at new lane signal ≡ Some (sums lane)
  stands lane low = rw reached (gets.at lane low)

  elsewhere : (other : ℕ) → other ≢ signal → lanes_at new other ≡ lanes_at old other
  elsewhere other apart = rw (kept other apart, gets.others other apart) refl

-- a number that is inserted is in the set, and for all others nothing changes
inserted_in : (number : ℕ) (words later : List ℕ) → IsInserted number words later
    → (has_number later number ≡ true)
    × ((other : ℕ) → other ≢ number → has_number later other ≡ has_number words other)
inserted_in number words later inserted = grind (arith, eq-eqb, ne_eqb)

module _ (network : Network) (old : Reach) (from gate : ℕ) (given : Lanes) (delay : Sums)
    (here : lanes_at old from ≡ Some given) (is : delay ≡ delay_at network gate) where
  same_through : (lane : ℕ)
      → sums_through (lane_of (row_at (rows_of old.lanes) from) lane) delay
      ≡ sums_through (lane_of given lane) (delay_at network gate)
  same_through lane = grind (arith, row_given)

  -- a gate that is reached joins them with its own
  pub IsHanded-merged : (lanes : LaneTable) → has_number old.reached.words.items gate ≡ true
      → gate < length (rows_of old.lanes) → table_limit lanes ≡ table_limit old.lanes
      → IsMerged from gate delay (rows_of old.lanes) (rows_of lanes)
      → IsHanded network given gate old
      (record { reached = old.reached; lanes = lanes; waiting = old.waiting })
  IsHanded-merged lanes reached inside limit gets =
      grind (arith, same_through, lane_there, slice_get-get_or)

  -- one that is not holds them alone, and waits
  pub IsHanded-passed : (reached waiting : NumberSet) (lanes : LaneTable)
      → has_number old.reached.words.items gate ≡ false
      → IsInserted gate old.reached.words.items reached.words.items
      → IsInserted (rank_at network gate) old.waiting.words.items waiting.words.items
      → table_limit lanes ≡ table_limit old.lanes
      → IsPassed from gate delay (rows_of old.lanes) (rows_of lanes)
      → IsHanded network given gate old
      (record { reached = reached; lanes = lanes; waiting = waiting })
  IsHanded-passed reached waiting lanes first inserted waits limit gets =
      grind (arith, inserted_in, same_through)

-- what stood in a lane at a signal, or no sums where it isn't reached
stood_before : (reach : Reach) (signal : ℕ) (known : Bool)
    → known ≡ has_number reach.reached.words.items signal → signal < length (rows_of reach.lanes)
    → (lane : ℕ) → unwrap_or (lane_at reach lane signal) no_sums
    ≡ sums_before (not known) (row_at (rows_of reach.lanes) signal) lane
stood_before reach signal true is inside lane =
    ap (λ o. unwrap_or o no_sums) (lane_there reach lane signal (sym is) inside)
stood_before reach signal false is inside lane = rw (sym is) refl

-- sums that are joined in a lane of a signal are marked, and where it isn't reached alone
pub IsMarked-joined : (old : Reach) (lane signal : ℕ) (sums : Sums) (known : Bool)
    (reached : NumberSet) (lanes : LaneTable) → lane < 16 → signal < length (rows_of old.lanes)
    → known ≡ has_number old.reached.words.items signal
    → IsInserted signal old.reached.words.items reached.words.items
    → table_limit lanes ≡ table_limit old.lanes
    → IsJoined signal lane sums (not known) (rows_of old.lanes) (rows_of lanes)
    → IsMarked lane signal sums old
    (record { reached = reached; lanes = lanes; waiting = old.waiting })
IsMarked-joined old lane signal sums known reached lanes low inside is inserted limit gets =
    grind (arith, inserted_in, stood_before, stands, elsewhere, eq-eqb, ne_eqb)
