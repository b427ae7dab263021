-- Sets of names.
use Rattle.std.specs.Prelude.{◌≡◌, ℕ, List}
use Rattle.place_reader.specs.Placements.{is_among}

-- the same names are among these and those
abbrev pub AreSameNames : (names others : List (List ℕ)) → Type 0
AreSameNames names others = (name : List ℕ) → is_among names name ≡ is_among others name
