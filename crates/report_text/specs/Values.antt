-- What the lines of a report tell: their words, and values within their bounds.
use Rattle.std.specs.Prelude.{All, List, None, Option, Some, [], codes, length, pos, take, ℕ, ℤ, ◌++◌, ◌<ℤ◌, ◌<◌, ◌^◌, ◌∷◌, ◌≡◌, ◌≤ℤ◌, ◌≤◌}
use Rattle.report_text.specs.Common.{quotient_text, IsBelow, Circuit, Constraint, Point, Report, Lead, IsPointBelow, IsSmallWire, HasSmallWeight, IsBetweenRegisters, LeadsAmong, IsSmallLead, IsMergeShow, IsSmallMerge, IsSourceShow, ShowsAmong, lead_line, path_line, show_words, Words, count_line, register_line, floor_line, line_for, AreSmallSlacks, Scale, Timed, MergeLine, NodeLine, SourceLine, signed_decimal, flat_map}

-- words that stand after others on a line: each after a space
abbrev pub suffix : Words → List ℕ
suffix words = flat_map (λ word. 32 ∷ word) words

-- lengths, reaches and points are small enough to be brought to lowest terms
pub record HasSmallLengths (report : Report) : Type 0 where
  pub some_grid : pos 1 ≤ℤ report.grid
  pub small_grid : report.grid <ℤ pos (10 ^ 37)
  pub reaches : All (IsBelow (10 ^ 32)) report.tree.reach
  pub places : All (IsPointBelow (10 ^ 32)) report.tree.place
  pub lengths : All (IsBelow (10 ^ 32)) report.tree.length
  pub wires : All IsSmallWire report.wires
  pub total : IsBelow (10 ^ 36) report.total

-- the line for what shows the period: how many constraints the cycle has, or the floor
abbrev pub period_shown_line : Option ℕ → Words
period_shown_line None = floor_line
period_shown_line (Some count) = count_line (codes "cycle") count

abbrev pub IsSmallCount : Option ℕ → Type 0
IsSmallCount None = Unit {0}
IsSmallCount (Some count) = (1 ≤ count) × (count ≤ 9999)

pub record DenotesConstraint (circuit : Circuit) (words : Words)
    (constraint : Constraint) : Type 0 where
  pub line : words ≡ line_for circuit constraint
  pub registers : IsBetweenRegisters (length circuit.registers) constraint
  pub weight : HasSmallWeight constraint

-- the signals of a path, none where it isn't printed
pub record DenotesPath (circuit : Circuit) (words : Words) (path : List ℕ) : Type 0 where
  pub line : words ≡ path_line circuit path
  pub signals : All (λ number. number < length circuit.signals) path
  pub few : length path ≤ 65536

-- the arrival of a register, in steps, and its slacks
pub record DenotesTimed (circuit : Circuit) (scale : Scale) (register : ℕ) (words : Words)
    (timed : Timed) : Type 0 where
  pub line : words ≡ register_line circuit scale.den register timed.arrival timed.slack
  pub small : IsBelow (10 ^ 19) timed.arrival
  pub slacks : AreSmallSlacks scale.den timed.slack

pub record DenotesLead (circuit : Circuit) (words : Words) (lead : Lead) : Type 0 where
  pub line : words ≡ lead_line circuit lead
  pub registers : LeadsAmong (length circuit.registers) lead
  pub small : IsSmallLead lead

-- there are steps, and few enough for their words
pub record IsSmallScale (scale : Scale) : Type 0 where
  pub some_den : pos 1 ≤ℤ scale.den
  pub small_den : IsBelow (10 ^ 37) scale.den
  pub some_grid : pos 1 ≤ℤ scale.grid
  pub small_grid : IsBelow (10 ^ 37) scale.grid

-- the words of a node that a merge makes
abbrev pub merged_line : Circuit → (grid : ℤ) → (node : ℕ) → MergeLine → Words
merged_line circuit grid node line = signed_decimal (pos node)
    ∷ signed_decimal (pos line.merge.first) ∷ signed_decimal (pos line.merge.second)
    ∷ quotient_text line.reach grid ∷ show_words circuit line.show

-- the words say this merge of a node
pub record SaysMerge (circuit : Circuit) (grid : ℤ) (node : ℕ) (words : Words) (line : MergeLine)
    : Type 0 where
  pub words_are : words ≡ merged_line circuit grid node line
  pub merge : IsSmallMerge line.merge
  pub reach : IsBelow (10 ^ 32) line.reach
  pub show : IsMergeShow line.show
  pub among : ShowsAmong (length circuit.registers) line.show

-- the words of the source
abbrev pub sourced_line : Circuit → (grid : ℤ) → SourceLine → Words
sourced_line circuit grid line =
    codes "source" ∷ quotient_text line.reach grid ∷ show_words circuit line.show

-- the words say this of the source
pub record SaysSource (circuit : Circuit) (grid : ℤ) (words : Words) (line : SourceLine)
    : Type 0 where
  pub words_are : words ≡ sourced_line circuit grid line
  pub reach : IsBelow (10 ^ 32) line.reach
  pub show : IsSourceShow line.show
  pub among : ShowsAmong (length circuit.registers) line.show

-- the words of a point
abbrev pub coordinates : (grid : ℤ) → Point → Words
coordinates grid point = quotient_text point.x grid ∷ quotient_text point.y grid ∷ []

-- the words of a node
abbrev pub placed_line : (grid : ℤ) → (node : ℕ) → NodeLine → Words
placed_line grid node line = signed_decimal (pos node) ∷ coordinates grid line.place
    ++ quotient_text line.length grid ∷ signed_decimal (pos line.wire.used)
    ∷ flat_map (coordinates grid) (take line.wire.used line.wire.corners)

-- the words say this of a node
pub record SaysNode (grid : ℤ) (node : ℕ) (words : Words) (line : NodeLine) : Type 0 where
  pub words_are : words ≡ placed_line grid node line
  pub place : IsPointBelow (10 ^ 32) line.place
  pub edge : IsBelow (10 ^ 32) line.length
  pub wire : IsSmallWire line.wire

-- so many grid steps of wire in length units, each of which has as many as `grid` says
abbrev pub wire_line : (grid steps : ℤ) → Words
wire_line grid steps = codes "wire" ∷ quotient_text steps grid ∷ []
