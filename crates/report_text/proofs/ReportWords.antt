-- The lines of a report are lines: words with no space and no line feed.
use Rattle.report_text.proofs.Vocabulary.{ℕ, pos, Bool, true, false, List, [], ◌∷◌, ◌++◌, map, length, codes, if◌then◌else◌, arith, AllByRecursion, flat_map, range_with_len, Circuit, Constraint, PeriodShow, Cycle, Floor, Point, Report, Version, First, Second, Lead, Zero, Tight, Show, Pair, Sink, Root, Words, count_line, period_line, constraint_line, line_for, length_text, version_line, path_line, pathed_lines, period_show_lines, register_line_at, lead_line, show_words, merge_line_at, source_line, point_words, node_line_at, lines_below, timing_lines, tree_lines, report_lines, signal_name}
use Rattle.report_text.proofs.OneLine.{IsWord, IsLine}
use Rattle.report_text.proofs.WordBytes.{number_word, fraction_word, quotient_word, slack_word, signal_word, register_word}

-- some words
abbrev AreWords : Words → Type 0
AreWords words = AllByRecursion IsWord words

-- some lines
abbrev pub AreLines : List Words → Type 0
AreLines lines = AllByRecursion IsLine lines

-- one list after another
pub appended : {X : Type 0} (P : X → Type 0) (xs ys : List X) → AllByRecursion P xs
    → AllByRecursion P ys → AllByRecursion P (xs ++ ys)
appended P [] ys each each' = each'
appended P (x ∷ xs) ys each each' = (each.0, appended P xs ys each.1 each')

-- what is so of each image
pub mapped : {X Y : Type 0} (P : Y → Type 0) (f : X → Y) (xs : List X) → ((x : X) → P (f x))
    → AllByRecursion P (map f xs)
mapped P f [] each = tt
mapped P f (x ∷ xs) each = (each x, mapped P f xs each)

-- the line of a constraint
pub constraint_is : (circuit : Circuit) (constraint : Constraint)
    → IsLine (line_for circuit constraint)
constraint_is circuit constraint = at constraint.setup
  where
    at : (setup : Bool) → IsLine (if setup then constraint_line
        (codes "setup") circuit constraint.tail constraint.head constraint.weight
        else constraint_line
        (codes "hold") circuit constraint.head constraint.tail constraint.weight)
    at true = search (arith, number_word, register_word)
    at false = search (arith, number_word, register_word)

-- the words of a line
line_words : (words : Words) → IsLine words → AreWords words
line_words [] is = absurd is
line_words (word ∷ words) is = is

-- the lines of a cycle's constraints and their paths
path_is : (circuit : Circuit) (path : List ℕ) → IsLine (path_line circuit path)
path_is circuit [] = search arith
path_is circuit (first ∷ more) =
    let each = mapped IsWord (signal_name circuit) (first ∷ more) (signal_word circuit) in
    search (arith, number_word, each)

pathed_are : (circuit : Circuit) (cycle : List Constraint) (paths : List (List ℕ))
    → AreLines (pathed_lines circuit cycle paths)
pathed_are circuit [] paths = tt
pathed_are circuit (constraint ∷ cycle) [] =
    (constraint_is circuit constraint, (path_is circuit [], pathed_are circuit cycle []))
pathed_are circuit (constraint ∷ cycle) (path ∷ paths) =
    (constraint_is circuit constraint, (path_is circuit path, pathed_are circuit cycle paths))

-- those of what shows a period
pub shown_are : (version : Version) (circuit : Circuit) (shown : PeriodShow) (paths : List (List ℕ))
    → AreLines (period_show_lines version circuit shown paths)
shown_are First circuit (Cycle cycle) paths =
    search (arith, number_word, mapped IsLine (line_for circuit) cycle (constraint_is circuit))
shown_are Second circuit (Cycle cycle) paths = search (arith, number_word, pathed_are)
shown_are First circuit Floor paths = search arith
shown_are Second circuit Floor paths = search arith

-- that of a lead
lead_is : (circuit : Circuit) (lead : Lead) → IsLine (lead_line circuit lead)
lead_is circuit Zero = search arith
lead_is circuit (Tight depth constraint) =
    let line = line_words (line_for circuit constraint) (constraint_is circuit constraint) in
    search (arith, number_word, line)

-- that of a register
register_is : (circuit : Circuit) (report : Report) (register : ℕ)
    → IsLine (register_line_at circuit report register)
register_is circuit report register = search (register_word, quotient_word, slack_word)

-- the first line
version_is : (version : Version) → IsLine (version_line version)
version_is First = search arith
version_is Second = search arith

-- the line of a count
pub count_is : (word : List ℕ) (count : ℕ) → IsWord word → IsLine (count_line word count)
count_is word count is = (is, (number_word (pos count), tt))

-- the lines of the timing
timing_are : (circuit : Circuit) (report : Report) → AreLines (timing_lines circuit report)
timing_are circuit report =
    let shown = period_show_lines report.version circuit report.shown report.paths in
    let prefix = version_line report.version ∷ period_line report.period ∷ shown in
    let registers = lines_below (register_line_at circuit report) (length report.schedule.at) in
    let count = count_line (codes "registers") (length report.schedule.at) in
    let leads = map (lead_line circuit) report.leads in
    let prefix_are : AreLines prefix = search (arith, version_is, fraction_word, shown_are) in
    let registers_are : AreLines (count ∷ registers) = (
      count_is (codes "registers") (length report.schedule.at) (search arith),
      mapped IsLine (register_line_at circuit report)
          (range_with_len 0 (length report.schedule.at)) (register_is circuit report),
    ) in
    appended IsLine (prefix ++ count ∷ registers) leads
    (appended IsLine prefix (count ∷ registers) prefix_are registers_are)
    (mapped IsLine (lead_line circuit) report.leads (lead_is circuit))

-- the words for what shows a reach
show_are : (circuit : Circuit) (show : Show) → AreWords (show_words circuit show)
show_are circuit (Pair first second) = search (arith, register_word)
show_are circuit (Sink register) = search (arith, register_word)
show_are circuit Root = search arith

-- the line of a merge
merge_is : (circuit : Circuit) (report : Report) (place : ℕ)
    → IsLine (merge_line_at circuit report place)
merge_is circuit report place = search (number_word, quotient_word, show_are)

-- the line of the source
source_is : (circuit : Circuit) (report : Report) → IsLine (source_line circuit report)
source_is circuit report = search (arith, quotient_word, show_are)

-- points
points_are : (report : Report) (points : List Point)
    → AreWords (flat_map (point_words report) points)
points_are report [] = tt
points_are report (point ∷ points) = search (quotient_word, points_are report points)

-- the line of a node
node_is : (circuit : Circuit) (report : Report) (node : ℕ)
    → IsLine (node_line_at circuit report node)
node_is circuit report node = search (number_word, quotient_word, points_are)

-- the lines of the tree
tree_are : (circuit : Circuit) (report : Report) → AreLines (tree_lines circuit report)
tree_are circuit report =
    let merges = length report.topology.merges in
    let nodes = length report.tree.length in
    let prefix = count_line (codes "merges") merges
    ∷ lines_below (merge_line_at circuit report) merges in
    let back = source_line circuit report ∷ count_line (codes "nodes") nodes
    ∷ lines_below (node_line_at circuit report) nodes in
    let prefix_are : AreLines prefix = (
      count_is (codes "merges") merges (search arith),
      mapped IsLine (merge_line_at circuit report) (range_with_len 0 merges)
          (merge_is circuit report),
    ) in
    let back_are : AreLines back = (
      source_is circuit report,
      (
        count_is (codes "nodes") nodes (search arith),
        mapped IsLine (node_line_at circuit report) (range_with_len 0 nodes)
            (node_is circuit report),
      ),
    ) in
    appended IsLine (prefix ++ back) ((codes "wire" ∷ length_text report report.total ∷ []) ∷ [])
    (appended IsLine prefix back prefix_are back_are)
    ((search arith, (quotient_word report.total report.grid, tt)), tt)

-- the lines of a report are lines
pub report_lines_are : (circuit : Circuit) (report : Report)
    → AreLines (report_lines circuit report)
report_lines_are circuit report = search (arith, appended, timing_are, tree_are)
