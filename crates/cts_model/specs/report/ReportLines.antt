-- The lines of a report: a clock tree, and what shows that its period, its schedule and its wire
-- are the least. Times are in ticks, lengths in length units.
use Rattle.std.specs.Prelude.{ℕ, ℤ, pos, ◌+◌, List, [], ◌∷◌, ◌++◌, map, length, take, replicate, None, slice_get, slice_index_or, codes}
use Rattle.std.specs.List.{flat_map, range_with_len}
use Rattle.std.specs.Option.{option_map_or}
use Rattle.std.specs.Fmt.{signed_decimal}
use Rattle.cts_base.specs.Fractions.{quotient_text}
use Rattle.cts_model.specs.Types.{Circuit, Constraint, PeriodShow, Cycle, Floor, Point, Report, Version, First, Second, Lead, Zero, Tight, Merge, Show, Pair, Root, Wire}
use Rattle.cts_model.specs.declared.tree.Show.TheVariants.{Sink}
use Rattle.cts_model.specs.Terms.{register_name, Words, count_line, period_line, line_for, show_lines, floor_line, register_line, arrival_of, source_of}

abbrev pub version_line : Version → Words
version_line First = codes "cts" ∷ codes "1" ∷ []
version_line Second = codes "cts" ∷ codes "2" ∷ []

abbrev pub signal_name : Circuit → ℕ → List ℕ
signal_name circuit number =
    option_map_or (λ signal. signal.name) (slice_get circuit.signals number) []

-- the signals of a path, or that it isn't printed
abbrev pub path_line : Circuit → List ℕ → Words
path_line circuit [] = codes "path" ∷ codes "-" ∷ []
path_line circuit (first ∷ more) = codes "path" ∷ signed_decimal (pos (length (first ∷ more)))
    ∷ map (signal_name circuit) (first ∷ more)

-- each constraint of a cycle, and after it its path
abbrev pub pathed_lines : Circuit → List Constraint → List (List ℕ) → List Words
pathed_lines circuit [] paths = []
pathed_lines circuit (constraint ∷ cycle) [] =
    line_for circuit constraint ∷ path_line circuit [] ∷ pathed_lines circuit cycle []
pathed_lines circuit (constraint ∷ cycle) (path ∷ paths) =
    line_for circuit constraint ∷ path_line circuit path ∷ pathed_lines circuit cycle paths

-- what shows that no period is less, in the second version with paths
abbrev pub period_show_lines : Version → Circuit → PeriodShow → List (List ℕ) → List Words
period_show_lines First circuit shown paths = show_lines circuit shown
period_show_lines Second circuit (Cycle cycle) paths =
    count_line (codes "cycle") (length cycle) ∷ pathed_lines circuit cycle paths
period_show_lines Second circuit Floor paths = floor_line ∷ []

-- the register's line, by its number
abbrev pub register_line_at : Circuit → Report → ℕ → Words
register_line_at circuit report register = register_line circuit report.schedule.den register
    (arrival_of report.schedule.at register)
    (slice_index_or report.slacks register (record { setup = None; hold = None }))

-- why the arrival at a register can't be earlier
abbrev pub lead_line : Circuit → Lead → Words
lead_line circuit Zero = codes "lead" ∷ codes "0" ∷ []
lead_line circuit (Tight depth constraint) =
    codes "lead" ∷ signed_decimal (pos depth) ∷ line_for circuit constraint

-- the words for what shows a reach
abbrev pub show_words : Circuit → Show → Words
show_words circuit (Pair first second) =
    codes "pair" ∷ register_name circuit first ∷ register_name circuit second ∷ []
show_words circuit (Sink register) = codes "sink" ∷ register_name circuit register ∷ []
show_words circuit Root = codes "root" ∷ []

-- grid steps as a length
abbrev pub length_text : Report → ℤ → List ℕ
length_text report steps = quotient_text steps report.grid

-- a node's entry of a list of numbers
abbrev pub number_at : List ℤ → ℕ → ℤ
number_at numbers node = slice_index_or numbers node (pos 0)

-- a merge's words: its node, the two that it joins, its reach and what shows it
abbrev pub merge_words : Circuit → Report → (node : ℕ) → Merge → Show → Words
merge_words circuit report node merge show = signed_decimal (pos node)
    ∷ signed_decimal (pos merge.first) ∷ signed_decimal (pos merge.second)
    ∷ length_text report (number_at report.tree.reach node) ∷ show_words circuit show

-- the line of the merge at a place, whose node is after all sinks and earlier merges
abbrev pub merge_line_at : Circuit → Report → ℕ → Words
merge_line_at circuit report place = merge_words circuit report
    (length report.schedule.at + place)
    (slice_index_or report.topology.merges place (record { first = 0; second = 0 }))
    (slice_index_or report.shows place Root)

-- the source's reach and what shows it; its show is after those of the merges
abbrev pub source_line : Circuit → Report → Words
source_line circuit report = codes "source"
    ∷ length_text report (number_at report.tree.reach (source_of (length report.schedule.at)))
    ∷ show_words circuit (slice_index_or report.shows (length report.topology.merges) Root)

-- the two coordinates of a point
abbrev pub point_words : Report → Point → Words
point_words report point = length_text report point.x ∷ length_text report point.y ∷ []

-- how many points a drawn wire has, and the points
abbrev pub wire_words : Report → Wire → Words
wire_words report wire = signed_decimal (pos wire.used)
    ∷ flat_map (point_words report) (take wire.used wire.corners)

-- what a report has where it names no point and no wire
abbrev pub origin : Point
origin = record { x = pos 0; y = pos 0 }

abbrev pub no_wire : Wire
no_wire = record { corners = replicate 5 origin; used = 0 }

-- a node's place, the length of its edge, and the edge's drawn wire from its parent on
abbrev pub node_line_at : Circuit → Report → ℕ → Words
node_line_at circuit report node = signed_decimal (pos node)
    ∷ point_words report (slice_index_or report.tree.place node origin)
    ++ length_text report (number_at report.tree.length node)
    ∷ wire_words report (slice_index_or report.wires node no_wire)

-- a line for each number below that
abbrev pub lines_below : (line_at : ℕ → Words) → ℕ → List Words
lines_below line_at count = map line_at (range_with_len 0 count)

abbrev pub timing_lines : Circuit → Report → List Words
timing_lines circuit report = version_line report.version ∷ period_line report.period
    ∷ period_show_lines report.version circuit report.shown report.paths
    ++ count_line (codes "registers") (length report.schedule.at)
    ∷ lines_below (register_line_at circuit report) (length report.schedule.at)
    ++ map (lead_line circuit) report.leads

abbrev pub tree_lines : Circuit → Report → List Words
tree_lines circuit report =
    count_line (codes "merges") (length report.topology.merges)
    ∷ lines_below (merge_line_at circuit report) (length report.topology.merges)
    ++ source_line circuit report
    ∷ count_line (codes "nodes") (length report.tree.length)
    ∷ lines_below (node_line_at circuit report) (length report.tree.length)
    ++ (codes "wire" ∷ length_text report report.total ∷ []) ∷ []

-- the lines of a report: first the period and the schedule, then the tree
abbrev pub report_lines : Circuit → Report → List Words
report_lines circuit report = timing_lines circuit report ++ tree_lines circuit report
