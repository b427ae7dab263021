-- What devices of the host tell: of their bytes nothing.
use Rattle.std.specs.Prelude.{ℕ, List, Option, None}

-- nothing, since nobody knows them
abbrev pub absent : Option (List ℕ)
absent = None

-- a stream, and the count of its faults
pub record Counted (S : Type 0) : Type 0 where
  pub stream : S
  pub faults : ℕ

-- what opens files, the started one, and the count of the faults
pub record Opened (O F : Type 0) : Type 0 where
  pub opener : O
  pub stream : Option F
  pub faults : ℕ
