-- What a line of a report may be.
use Rattle.std.specs.Prelude.{ℕ, List}

-- `cts` and the version; the period; `floor`, or how many constraints the cycle has; one of them,
-- and its path; a word and how many lines follow; the register of that number; a lead; the merge
-- that makes the node of that number; the source; the node of that number; the whole wire
pub data LineForm : Type 0 where
  Version : LineForm
  Period : LineForm
  Show : LineForm
  Constraint : LineForm
  Path : LineForm
  Count : (word : List ℕ) (count : ℕ) → LineForm
  Register : (register : ℕ) → LineForm
  Lead : LineForm
  Merge : (node : ℕ) → LineForm
  Source : LineForm
  Node : (node : ℕ) → LineForm
  Total : LineForm
