-- What a report keeps to, so that it has a text and can be read back: it is of a circuit's size,
-- and its numbers are within bounds.
use Rattle.std.specs.Prelude.{◌≡◌, ◌<◌, ◌≤◌, ◌+◌, ◌*◌, ◌^◌, ℕ, pos, neg_ℤ, List, length, drop, take, All, Some, slice_get, slice_index_or}
use Rattle.cts_model.specs.Types.{Circuit, Constraint, PeriodShow, Cycle, Floor, Report, Version, First, Second, Lead, Zero, Tight, Tech, Merge, Show, Pair, Root, Wire}
use Rattle.cts_model.specs.declared.tree.Show.TheVariants.{Sink}
use Rattle.cts_model.specs.Terms.{ArePadded, IsBelow, IsPointBelow, grid_of, scheduled_length, text_of, IsSmallPeriod, arrival_of, AreSmallSlacks, root_of, source_of}
use Rattle.cts_model.specs.report.ReportLines.{report_lines}

-- the registers of a constraint are among so many
pub record IsBetweenRegisters (registers : ℕ) (constraint : Constraint) : Type 0 where
  pub tail : constraint.tail < registers
  pub head : constraint.head < registers

-- and so are those that something names
abbrev pub ShowsPeriodAmong : ℕ → PeriodShow → Type 0
ShowsPeriodAmong registers (Cycle cycle) = All (IsBetweenRegisters registers) cycle
ShowsPeriodAmong registers Floor = Unit {0}

abbrev pub LeadsAmong : ℕ → Lead → Type 0
LeadsAmong registers Zero = Unit {0}
LeadsAmong registers (Tight depth constraint) = IsBetweenRegisters registers constraint

abbrev pub ShowsAmong : ℕ → Show → Type 0
ShowsAmong registers (Pair first second) = (first < registers) × (second < registers)
ShowsAmong registers (Sink register) = register < registers
ShowsAmong registers Root = Unit {0}

-- how many constraints a show lists
abbrev pub cycle_length : PeriodShow → ℕ
cycle_length (Cycle cycle) = length cycle
cycle_length Floor = 0

-- how many entries the list has in that version
abbrev pub count_in : Version → ℕ → ℕ
count_in First count = 0
count_in Second count = count

-- the lists are as long as a tree over the circuit's registers has them, and name what it has
pub record IsOfSize (circuit : Circuit) (report : Report) : Type 0 where
  pub arrivals : length report.schedule.at ≡ length circuit.registers
  pub slacks : length report.slacks ≡ length circuit.registers
  pub merges : length report.topology.merges + 1 ≡ length circuit.registers
  pub shows : length report.shows ≡ length circuit.registers
  pub reaches : length report.tree.reach ≡ 2 * length circuit.registers
  pub places : length report.tree.place ≡ 2 * length circuit.registers
  pub lengths : length report.tree.length + 1 ≡ 2 * length circuit.registers
  pub wires : length report.wires + 1 ≡ 2 * length circuit.registers
  pub paths : length report.paths ≡ count_in report.version (cycle_length report.shown)
  pub leads : length report.leads ≡ count_in report.version (length circuit.registers)
  pub period_show : ShowsPeriodAmong (length circuit.registers) report.shown
  pub each_show : All (ShowsAmong (length circuit.registers)) report.shows
  pub each_lead : All (LeadsAmong (length circuit.registers)) report.leads
  pub each_path : All (All (λ number. number < length circuit.signals)) report.paths

-- a weight is below 10^12 in size, a depth from 1 to 9,999
abbrev pub HasSmallWeight : Constraint → Type 0
HasSmallWeight constraint = IsBelow (10 ^ 12) constraint.weight

abbrev pub HasSmallWeights : PeriodShow → Type 0
HasSmallWeights (Cycle cycle) = (1 ≤ length cycle) × (length cycle ≤ 9999)
    × All HasSmallWeight cycle
HasSmallWeights Floor = Unit {0}

abbrev pub IsSmallLead : Lead → Type 0
IsSmallLead Zero = Unit {0}
IsSmallLead (Tight depth constraint) =
    (1 ≤ depth) × (depth ≤ 9999) × HasSmallWeight constraint

-- a wire has 1 to 5 points, and none after them
pub record IsSmallWire (wire : Wire) : Type 0 where
  pub some : 1 ≤ wire.used
  pub few : wire.used ≤ 5
  pub padded : ArePadded wire
  pub each : All (IsPointBelow (10 ^ 32)) (take wire.used wire.corners)

-- merges are shown by pairs in order, and the source, whose show is the last, by a sink or the root
abbrev pub IsMergeShow : Show → Type 0
IsMergeShow (Pair first second) = first ≤ second
IsMergeShow (Sink register) = ⊥
IsMergeShow Root = ⊥

abbrev pub IsSourceShow : Show → Type 0
IsSourceShow (Pair first second) = ⊥
IsSourceShow (Sink register) = Unit {0}
IsSourceShow Root = Unit {0}

-- numbers of nodes are below 10,000
pub record IsSmallMerge (merge : Merge) : Type 0 where
  pub first : merge.first ≤ 9999
  pub second : merge.second ≤ 9999

-- the numbers of the timing are within their bounds
pub record HasTimingBounds (report : Report) : Type 0 where
  pub period : IsSmallPeriod report.period
  pub den : report.schedule.den ≡ report.period.den
  pub cycle : HasSmallWeights report.shown
  pub arrivals : All (IsBelow (10 ^ 19)) report.schedule.at
  pub slacks : All (AreSmallSlacks report.period.den) report.slacks
  pub paths : All (λ path. length path ≤ 65536) report.paths
  pub leads : All IsSmallLead report.leads

-- a tree's numbers are within their bounds, and what isn't printed is what it has to be: a sink's
-- reach is minus its scheduled length, and the source stands where the root's wire begins
pub record HasTreeBounds (tech : Tech) (report : Report) : Type 0 where
  pub grid : report.grid ≡ grid_of report.period tech
  pub merges : All IsSmallMerge report.topology.merges
  pub reaches : All (IsBelow (10 ^ 32)) report.tree.reach
  pub places : All (IsPointBelow (10 ^ 32)) report.tree.place
  pub lengths : All (IsBelow (10 ^ 32)) report.tree.length
  pub wires : All IsSmallWire report.wires
  pub total : IsBelow (10 ^ 36) report.total
  pub merge_shows : All IsMergeShow (take (length report.topology.merges) report.shows)
  pub source_show : All IsSourceShow (drop (length report.topology.merges) report.shows)
  pub sinks : (register : ℕ) → register < length report.schedule.at
      → slice_index_or report.tree.reach register (pos 0)
      ≡ neg_ℤ (scheduled_length tech (arrival_of report.schedule.at register))
  pub source : (wire : Wire)
      → slice_get report.wires (root_of (length report.schedule.at)) ≡ Some wire
      → slice_get report.tree.place (source_of (length report.schedule.at))
      ≡ slice_get wire.corners 0

-- all numbers are within the bounds for a table
pub record IsWithinBounds (tech : Tech) (report : Report) : Type 0 where
  pub timing : HasTimingBounds report
  pub tree : HasTreeBounds tech report

-- the bytes are the lines of a report over the circuit, within the bounds for the table
pub record Spells (circuit : Circuit) (tech : Tech) (text : List ℕ) (report : Report) : Type 0 where
  pub size : IsOfSize circuit report
  pub bounds : IsWithinBounds tech report
  pub lines : text ≡ text_of (report_lines circuit report)
