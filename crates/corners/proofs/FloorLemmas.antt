-- The greatest of the floors of the corners so far.
use Rattle.corners.proofs.Vocabulary.{◌≡◌, ◌<◌, ◌≤◌, ◌+◌, ℕ, ℤ, ◌≤ℤ◌, Bool, true, false, cond, List, length, get_or, inl, inr, refl, to_z, of_z, arith, int_max, w128, Any, cases_lt, ints, clamps, get_or_default, Tech, IsSmallFloor, IsGreatestOf}
use Rattle.std.specs.Int.Signed.{lt_z}

-- the number is a floor, and none of so many is greater
pub record IsGreatestSoFar (techs : List Tech) (before : ℕ) (floor : ℤ) : Type 0 where
  pub a_floor : Any (λ tech. tech.floor ≡ floor) techs
  pub greatest : (corner : ℕ) (any : Tech) → corner < before → corner < length techs
      → (get_or techs corner any).floor ≤ℤ floor

-- the floor of a corner is one
pub floor_of : (techs : List Tech) (corner : ℕ) (any : Tech) → corner < length techs
    → Any (λ tech. tech.floor ≡ (get_or techs corner any).floor) techs
floor_of techs corner any within =
    let its = get_or techs corner any in
    (corner, its, within, get_or_default techs corner its any within, refl)

module _ (techs : List Tech) where
  -- the first floor, of none
  pub greatest_none : (any : Tech) → 1 ≤ length techs
      → IsGreatestSoFar techs 0 (get_or techs 0 any).floor
  greatest_none any some = record {
    a_floor = floor_of techs 0 any some;
    greatest = λ corner other before within. absurd (omega (arith, before));
  }

  -- with a further corner's floor
  pub greatest_next : (before : ℕ) (floor : ℤ) (any : Tech) → before < length techs
      → IsGreatestSoFar techs before floor
      → IsGreatestSoFar techs (before + 1) (int_max floor (get_or techs before any).floor)
  greatest_next before floor any within so_far = record {
    a_floor = at (lt_z (get_or techs before any).floor floor);
    greatest = λ corner other earlier inside. elim (cases_lt corner before) [
      | inl low ↦ omega (arith, ints, clamps, so_far.greatest corner other low inside)
      | inr high ↦
          let last : corner ≡ before = omega arith in
          rw (last, get_or_default techs before other any within) (omega (arith, ints, clamps))
    ];
  }
    where
      at : (less : Bool)
          → Any (λ tech. tech.floor ≡ cond less floor (get_or techs before any).floor) techs
      at true = so_far.a_floor
      at false = floor_of techs before any within

  -- and of all corners
  pub greatest_of_all : (floor : ℤ) → IsGreatestSoFar techs (length techs) floor
      → IsGreatestOf techs floor
  greatest_of_all floor so_far = record {
    a_floor = so_far.a_floor;
    greatest = λ corner any within. so_far.greatest corner any within within;
  }

  -- it is small, as each floor of a table is
  pub small_floor : (floor : ℤ) → IsGreatestSoFar techs (length techs) floor → IsSmallFloor floor
  small_floor floor so_far =
      let (corner, tech, within, here, is) = so_far.a_floor in
      let range = tech.valid.floor_within in
      record {
        positive = omega (arith, ints, is, range);
        small = omega (arith, ints, is, range);
      }

-- a small floor stands as it is
pub kept_floor : (floor : ℤ) → IsSmallFloor floor → to_z w128 (of_z w128 floor) ≡ floor
kept_floor floor small = omega (arith, ints, small)
