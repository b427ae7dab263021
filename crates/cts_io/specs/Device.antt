-- What a device gives and takes, and when a count of its faults rose.
use Rattle.std.specs.Prelude.{◌≡◌, ◌≤◌, ◌+◌, ◌-◌, ◌^◌, ℕ, min, List, [], ◌++◌, length, take, drop, Option, Some, None}

-- a count rose from before to now; a counter stands still at its last value, and there it counts as
-- rose
abbrev pub Rose : ℕ → ℕ → Type 0
Rose before now = min (before + 1) (2 ^ 64 - 1) ≤ now

-- what is said of bytes, with more at their end
abbrev pub appended : Option (List ℕ) → List ℕ → Option (List ℕ)
appended None more = None
appended (Some bytes) more = Some (bytes ++ more)

-- n bytes of what was left stand at the start of a buffer; after them this much is said to be left
pub record Takes (left : List ℕ) (n : ℕ) (buffer : List ℕ) (after : Option (List ℕ)) : Type 0 where
  pub within : n ≤ length left
  pub given : take n buffer ≡ take n left
  pub rest : after ≡ Some (drop n left)
  -- nothing is taken only where nothing is left
  pub some : n ≡ 0 → left ≡ []

-- all but at least the last of these bytes are written: a prefix of them
pub record WritesPrefix (before : Option (List ℕ)) (bytes : List ℕ)
    (now : Option (List ℕ)) : Type 0 where
  pub count : ℕ
  pub short : count + 1 ≤ length bytes
  pub written : now ≡ appended before (take count bytes)
