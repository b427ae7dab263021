-- Sums in lanes: that they keep within their limits, and what is shown of them.
use Rattle.path_delays.proofs.Vocabulary.{◌≡◌, ◌+◌, ◌<◌, ◌≤◌, ℕ, pos, ◌≤ℤ◌, List, get_or, Option, Some, None, inl, inr, refl, sym, ◌∙◌, ap, subst, arith, IsSome, option_and_then, option_map, option_map_or, cases_lt, get_or_past, get_or_default, clamps, ints, same_Some, Lanes, Sums, lane_of, AllBounded, AreBounded, AreMissing, AreWithin, delay_limit, either_sums, joined_sums, merged_sums, no_sums, some_sums, sums_through}
use Rattle.path_delays.proofs.Rooms.{within_higher}
use Rattle.path_delays.proofs.SumLemmas.{within_joined, within_through}

-- what is there
pub some_is : {X : Type 0} (o : Option X) → IsSome o → (x : X) × (o ≡ Some x)
some_is None none = absurd cc
some_is (Some x) some = (x, refl)

-- what becomes something is there
pub some_mapped : {X Y : Type 0} (f : X → Y) (o : Option X) (y : Y) → option_map f o ≡ Some y
    → IsSome o
some_mapped f None y mapped = absurd cc
some_mapped f (Some x) y mapped = refl

-- where nothing is, nothing is handed on yet
pub none_missing : (limit : ℕ) → AreMissing limit no_sums
none_missing limit = grind (arith, ints, clamps)

-- what is bounded by a limit is so by a higher one
pub bounded_higher : (limit higher : ℕ) (sums : Sums) → limit ≤ higher → AreBounded limit sums
    → AreBounded higher sums
bounded_higher limit higher sums more bounded = grind (arith, ints, clamps, within_higher)

-- nothing is there after a delay more where nothing was
missing_through : (limit more higher : ℕ) (sums delay : Sums) → limit + more ≤ higher
    → AreMissing limit sums → AreWithin more delay → AreMissing higher (sums_through sums delay)
missing_through limit more higher sums delay room missing small = search (arith, ints)

-- a delay more keeps within a limit that is higher by so much
pub bounded_through : (limit more higher : ℕ) (sums delay : Sums) → limit + more ≤ higher
    → AreBounded limit sums → AreWithin more delay → AreBounded higher (sums_through sums delay)
bounded_through limit more higher sums delay room bounded small =
    grind (arith, ints, clamps, within_through, missing_through)

-- what is bounded by the limit of all delays is there where it isn't below 0
pub bounded_some : (limit : ℕ) (sums : Sums) → limit ≤ delay_limit → AreBounded limit sums
    → pos 0 ≤ℤ sums.greatest → AreWithin limit sums
bounded_some limit sums few bounded some = grind (arith, ints, clamps)

-- merged sums of which one is missing are within the limit of the other
within_merged : (limit : ℕ) (some none : Sums) → AreWithin limit some → AreMissing limit none
    → AreWithin limit (merged_sums some none) × AreWithin limit (merged_sums none some)
within_merged limit some none within missing = grind (arith, ints, clamps)

-- merged sums of which both are missing are
missing_merged : (limit : ℕ) (known sums : Sums) → AreMissing limit known → AreMissing limit sums
    → AreMissing limit (merged_sums known sums)
missing_merged limit known sums was missing = grind (arith, ints, clamps)

-- what is bounded is joined within the bounds
pub bounded_joined : (limit : ℕ) (known : Option Sums) (sums : Sums)
    → ((old : Sums) → known ≡ Some old → AreBounded limit old) → AreBounded limit sums
    → AreBounded limit (joined_sums known sums)
bounded_joined limit None sums before bounded = bounded
bounded_joined limit (Some old) sums before bounded =
    search (arith, within_joined, same_Some, within_merged, missing_merged)

-- sums that are there stay as they are when they are merged with missing ones
merged_same : (limit : ℕ) (some none : Sums) → limit ≤ delay_limit → AreWithin limit some
    → AreMissing limit none → (merged_sums some none ≡ some) × (merged_sums none some ≡ some)
merged_same limit some none few within missing = grind (arith, ints, clamps)

-- sums within a limit are there
pub some_within : (limit : ℕ) (sums : Sums) → AreWithin limit sums → some_sums sums ≡ Some sums
some_within limit sums within = grind (arith, ints, clamps)

-- and missing ones are not
some_missing : (limit : ℕ) (sums : Sums) → limit ≤ delay_limit → AreMissing limit sums
    → some_sums sums ≡ None
some_missing limit sums few missing = grind (arith, ints, clamps)

-- what is there is as it stands, and isn't below 0
pub some_is_there : (sums entry : Sums) → some_sums sums ≡ Some entry
    → (sums ≡ entry) × (pos 0 ≤ℤ sums.greatest)
some_is_there sums entry some = grind (arith, ints, clamps, same_Some)

-- of two sums that may be missing those that are there become one
pub some_merged : (limit : ℕ) (known sums : Sums) → limit ≤ delay_limit → AreBounded limit known
    → AreBounded limit sums
    → some_sums (merged_sums known sums) ≡ either_sums (some_sums known) (some_sums sums)
some_merged limit known sums few bounded_known bounded = elim bounded_known [
  | inl was ↦ elim bounded [
    | inl within ↦
        some_within limit (merged_sums known sums) (within_joined limit (Some known) sums
        (λ entry same. subst (AreWithin limit) (same_Some known entry same) was) within)
        ∙ sym (both (Some known) (Some sums) (some_within limit known was)
        (some_within limit sums within))
    | inr missing ↦
        ap some_sums (merged_same limit known sums few was missing).0
        ∙ (some_within limit known was
        ∙ sym (both (Some known) None (some_within limit known was)
        (some_missing limit sums few missing)))
  ]
  | inr was ↦ elim bounded [
    | inl within ↦
        ap some_sums (merged_same limit sums known few within was).1
        ∙ (some_within limit sums within
        ∙ sym (both None (Some sums) (some_missing limit known few was)
        (some_within limit sums within)))
    | inr missing ↦
        some_missing limit (merged_sums known sums) few
        (missing_merged limit known sums was missing)
        ∙ sym (both None None (some_missing limit known few was)
        (some_missing limit sums few missing))
  ]
]
  where
    both : (first second : Option Sums) → some_sums known ≡ first → some_sums sums ≡ second
        → either_sums (some_sums known) (some_sums sums) ≡ either_sums first second
    both first second first_is second_is =
        ap (λ o. either_sums o (some_sums sums)) first_is ∙ ap (either_sums first) second_is

-- what stands in a lane is bounded where all lanes are
pub bounded_lane : (limit : ℕ) (row : Option Lanes) (lane : ℕ) → lane < 16
    → ((lanes : Lanes) → row ≡ Some lanes → AllBounded limit lanes) → (sums : Sums)
    → option_map (λ (lanes : Lanes). lane_of lanes lane) row ≡ Some sums → AreBounded limit sums
bounded_lane limit None lane low all sums none = absurd cc
bounded_lane limit (Some lanes) lane low all sums here =
    subst (AreBounded limit) (same_Some (lane_of lanes lane) sums here) (all lanes refl lane low)

-- and where only the first is sure to be there
pub some_merged_if : (limit : ℕ) (known : Sums) (found : Option Sums) → limit ≤ delay_limit
    → AreBounded limit known → ((sums : Sums) → found ≡ Some sums → AreBounded limit sums)
    → AreBounded limit (option_map_or (merged_sums known) found known)
    × (some_sums (option_map_or (merged_sums known) found known)
    ≡ either_sums (some_sums known) (option_and_then some_sums found))
some_merged_if limit known None few was bounded = (was, refl)
some_merged_if limit known (Some sums) few was bounded = (
  bounded_joined limit (Some known) sums
      (λ old same. subst (AreBounded limit) (same_Some known old same) was) (bounded sums refl),
  some_merged limit known sums few was (bounded sums refl),
)

-- also where the first isn't reached
pub some_joined : (limit : ℕ) (known : Option Sums) (sums : Sums) → limit ≤ delay_limit
    → ((old : Sums) → known ≡ Some old → AreBounded limit old) → AreBounded limit sums
    → some_sums (joined_sums known sums)
    ≡ either_sums (option_and_then some_sums known) (some_sums sums)
some_joined limit None sums few before bounded = grind (arith, ints, clamps)
some_joined limit (Some old) sums few before bounded =
    some_merged limit old sums few (before old refl) bounded

-- a delay more is added to what is there
pub some_through : (limit more higher : ℕ) (sums delay : Sums) → limit + more ≤ higher
    → higher ≤ delay_limit → AreBounded limit sums → AreWithin more delay
    → some_sums (sums_through sums delay)
    ≡ option_map (λ (one : Sums). sums_through one delay) (some_sums sums)
some_through limit more higher sums delay room few bounded small =
    grind (arith, ints, clamps, some_within, within_through, some_missing, missing_through)

-- what is there in a lane is reached
pub lanes_there : (known : Option Lanes) (lane : ℕ) (sums : Sums)
    → option_and_then some_sums (option_map (λ (lanes : Lanes). lane_of lanes lane) known)
    ≡ Some sums → IsSome known
lanes_there None lane sums none = absurd cc
lanes_there (Some lanes) lane sums here = refl

-- what is bounded in a list with room is so where it is read with zeros past its end
pub bounded_read : (limit : ℕ) (sums : List Sums) (lane : ℕ)
    → AreBounded limit (get_or sums lane no_sums)
    → AreBounded limit (get_or sums lane (record { least = pos 0; greatest = pos 0 }))
bounded_read limit sums lane bounded =
    grind (arith, ints, clamps, cases_lt, get_or_default, get_or_past)
