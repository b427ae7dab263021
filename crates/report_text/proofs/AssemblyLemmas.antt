-- A report that is put together from its sections: how large its numbers are, and its lines.
use Rattle.report_text.proofs.Vocabulary.{◌≡◌, ◌<◌, ◌≤◌, ◌-◌, ◌*◌, ◌^◌, ℕ, List, All, Option, Some, None, length, map, refl, sym, ap, arith, ◌+◌, ℤ, pos, neg_ℤ, to_z, of_z, [], ◌∷◌, ◌++◌, get_or, codes, ap₂, ◌∙◌, subst, append_assoc, drop, append-nil, slice_get, All-map, All-append, All-cons, All-nil, All-push, ints, drop_at, get_or-append-add, get_or-map, get_or-take, get_or_append_left, get_or_push, length-append, length-map, length-take, length_push, take_at, get_or_from_slice_get, slice_get-get_or, quotient_text, Circuit, Constraint, PeriodShow, Cycle, Floor, Version, Tech, IsBelow, IsPointBelow, HasSmallWeight, HasSmallWeights, IsBetweenRegisters, ShowsPeriodAmong, count_in, cycle_length, HasTimingBounds, HasTreeBounds, IsMergeShow, IsOfSize, IsSmallWire, IsSourceShow, IsWithinBounds, ShowsAmong, Spells, lead_line, lines_below, merge_line_at, no_wire, node_line_at, origin, period_show_lines, register_line_at, report_lines, show_words, source_line, timing_lines, tree_lines, version_line, Words, line_for, count_line, period_line, register_line, text_of, IsSmallPeriod, arrival_of, grid_of, scheduled_length, Report, Root, Wire, root_of, source_of, AreSmallSlacks, Parts, timed_line, begin_of, denoted_lines, places_in, reaches_in, report_denoted, shows_in, sink_reach, lines_after, IsSmallCount, period_shown_line, HasParts, scale_in, DenotesConstraint, DenotesLead, SaysMerge, SaysNode, SaysSource, merged_line, placed_line, sourced_line, DenotesTimed, Timed, MergeLine, NodeLine, lines_of, Scale, w128, unwrap_or}
use Rattle.std.specs.Prelude.{unsigned_abs}
use Rattle.cts_model.specs.declared.schedule.Slack.{Slack}
use Rattle.cts_model.proofs.GridLemmas.{scheduled_size}
use Rattle.report_text.proofs.RowLemmas.{rows_all, numbered_rows, plain_lines, rows_lines}
use Rattle.report_text.proofs.BodyLemmas.{body_lines, body_read}
use Rattle.report_text.proofs.WalkLemmas.{read_more}

-- a row is what its line tells, whatever its number
abbrev pub IsTold : {X : Type 0} (Says : ℕ → Words → X → Type 0) (line : ℕ → X → Words) → X → Type 0
IsTold Says line row = (number : ℕ) → Says number (line number row) row

-- so each value of the rows has what their lines give
pub told_all : {X Y : Type 0} (Says : ℕ → Words → X → Type 0) (line : ℕ → X → Words) (f : X → Y)
    (P : Y → Type 0) (rows : List X) → All (IsTold Says line) rows
    → ((row : X) → Says 0 (line 0 row) row → P (f row)) → All P (map f rows)
told_all Says line f P rows told gives = search (arith, All-map)

-- how many constraints show the period
abbrev pub count_shown : PeriodShow → Option ℕ
count_shown (Cycle cycle) = Some (length cycle)
count_shown Floor = None

-- what shows a period of a circuit, with as many paths as the version asks
pub record IsPrintableShow (circuit : Circuit) (version : Version) (shown : PeriodShow)
    (paths : List (List ℕ)) : Type 0 where
  pub weights : HasSmallWeights shown
  pub among : ShowsPeriodAmong (length circuit.registers) shown
  pub many : length paths ≡ count_in version (cycle_length shown)
  pub signals : All (All (λ number. number < length circuit.signals)) paths
  pub few : All (λ path. length path ≤ 65536) paths

-- the numbers are small, the rows are as many as the circuit has them, and each is told by its line
pub record ArePrintable (circuit : Circuit) (tech : Tech) (parts : Parts) : Type 0 where
  pub period : IsSmallPeriod parts.heading.period
  pub count : parts.heading.count ≡ count_shown parts.shown.shown
  pub shown : IsPrintableShow circuit parts.heading.version parts.shown.shown parts.shown.paths
  pub timings : All (IsTold (DenotesTimed circuit (scale_in tech parts.heading.period))
      (timed_line circuit parts.heading.period.den)) parts.body.timings
  pub leads : All (IsTold (λ number. DenotesLead circuit) (λ number. lead_line circuit))
      parts.body.leads
  pub merged : All (IsTold (SaysMerge circuit (grid_of parts.heading.period tech))
      (merged_line circuit (grid_of parts.heading.period tech))) parts.body.merged
  pub source : SaysSource circuit (grid_of parts.heading.period tech)
      (sourced_line circuit (grid_of parts.heading.period tech) parts.body.source) parts.body.source
  pub placed : All (IsTold (SaysNode (grid_of parts.heading.period tech))
      (placed_line (grid_of parts.heading.period tech))) parts.body.placed
  pub total : IsBelow (10 ^ 36) parts.body.total.length
  pub timings_many : length parts.body.timings ≡ length circuit.registers
  pub leads_many : length parts.body.leads
      ≡ count_in parts.heading.version (length circuit.registers)
  pub merged_many : length parts.body.merged ≡ length circuit.registers - 1
  pub placed_many : length parts.body.placed ≡ 2 * length circuit.registers - 1

-- the constraints of a cycle are told by their lines
pub cycle_told : {circuit : Circuit} (cycle : List Constraint)
    → All (IsBetweenRegisters (length circuit.registers)) cycle → All HasSmallWeight cycle
    → All (IsTold (λ number. DenotesConstraint circuit) (λ number. line_for circuit)) cycle
cycle_told cycle among small k d within number = search (among k d within, small k d within)

-- a count that is that of a cycle
counted_shown : (count : Option ℕ) (shown : PeriodShow) → IsSmallCount count
    → HasSmallWeights shown → cycle_length shown ≡ unwrap_or count 0 → count ≡ count_shown shown
counted_shown None Floor small weights same = refl
counted_shown (Some count) (Cycle cycle) small weights same = ap Some (sym same)
counted_shown None (Cycle cycle) small weights same = absurd (omega (arith, weights.0, same))
counted_shown (Some count) Floor small weights same = absurd (omega (arith, small.0, same))

-- the parts that a text has are so
pub parts_printable : {circuit : Circuit} {tech : Tech} {text : List ℕ} {parts : Parts}
    → HasParts circuit tech text parts → ArePrintable circuit tech parts
parts_printable {circuit} {tech} {text} {parts} has =
    let scale = scale_in tech parts.heading.period in
    let body = has.body in
    record {
      period = has.heading.small;
      count = counted_shown parts.heading.count parts.shown.shown has.heading.count
          has.shown.weights has.shown.counted;
      shown = search has.shown;
      timings = rows_all (DenotesTimed circuit scale)
          (IsTold (DenotesTimed circuit scale) (timed_line circuit scale.den))
          (λ number words row says other. search (says.small, says.slacks)) 0
          body.timings.has.lines parts.body.timings body.timings.has.each;
      leads = rows_all (λ number. DenotesLead circuit)
          (IsTold (λ number. DenotesLead circuit) (λ number. lead_line circuit))
          (λ number words row says other. search (says.registers, says.small)) 0
          body.leads.lines parts.body.leads body.leads.each;
      merged = rows_all (SaysMerge circuit scale.grid)
          (IsTold (SaysMerge circuit scale.grid) (merged_line circuit scale.grid))
          (λ number words row says other.
          search (says.merge, says.reach, says.show, says.among)) (length circuit.registers)
          body.merged.has.lines parts.body.merged body.merged.has.each;
      source = search body.source.denoted;
      placed = rows_all (SaysNode scale.grid)
          (IsTold (SaysNode scale.grid) (placed_line scale.grid))
          (λ number words row says other. search (says.place, says.edge, says.wire)) 0
          body.placed.has.lines parts.body.placed body.placed.has.each;
      total = body.total.denoted.1;
      timings_many = body.timings.has.many;
      leads_many = body.leads.many;
      merged_many = body.merged.has.many;
      placed_many = body.placed.has.many;
    }

-- a small number, as the code keeps it
pub small_read : (number : ℤ) → IsBelow (10 ^ 32) number → to_z w128 (of_z w128 number) ≡ number
small_read number small = omega (arith, ints, small)

neg_below : (number : ℤ) → unsigned_abs number ≤ 8 * 10 ^ 31 → IsBelow (10 ^ 32) (neg_ℤ number)
neg_below number small = record { above = omega (arith, ints); below = omega (arith, ints) }

-- the reach of a sink
pub sink_below : (tech : Tech) (arrival : ℤ) → IsBelow (10 ^ 19) arrival
    → IsBelow (10 ^ 32) (sink_reach tech arrival)
sink_below tech arrival small =
    neg_below _ (scheduled_size tech arrival (10 ^ 19) (omega (arith, ints, small)))

-- the parts of a report's lines, the first two apart
parts_apart : (a b c d e f : List Words)
    → ((a ++ b) ++ c) ++ ((d ++ e) ++ f) ≡ a ++ ((((b ++ c) ++ d) ++ e) ++ f)
parts_apart a b c d e f = simp append_assoc

-- the lines of the sections, one section after the other
pub after_apart : (circuit : Circuit) (scale : Scale)
    (parts : Parts) → lines_after circuit scale parts ≡ (count_line (codes "registers")
    (length circuit.registers) ∷ lines_of (timed_line circuit scale.den) 0 parts.body.timings)
    ++ (lines_of (λ number. lead_line circuit) 0 parts.body.leads
    ++ ((count_line (codes "merges") (length circuit.registers - 1)
    ∷ lines_of (merged_line circuit scale.grid) (length circuit.registers) parts.body.merged)
    ++ (sourced_line circuit scale.grid parts.body.source ∷ count_line (codes "nodes")
    (2 * length circuit.registers - 1) ∷ (lines_of (placed_line scale.grid) 0 parts.body.placed
    ++ (codes "wire" ∷ quotient_text parts.body.total.length scale.grid ∷ []) ∷ []))))
after_apart circuit scale parts =
    simp (append_assoc, plain_lines (lead_line circuit) 0 parts.body.leads)

-- ---- the report

module _ {circuit : Circuit} {tech : Tech} {parts : Parts}
    (is : ArePrintable circuit tech parts) where
  abbrev report : Report
  report = report_denoted tech parts

  abbrev scale : Scale
  scale = scale_in tech parts.heading.period

  abbrev count : ℕ
  count = length circuit.registers

  abbrev sinks : List ℤ
  sinks = map (sink_reach tech) report.schedule.at

  abbrev grid : ℤ
  grid = grid_of parts.heading.period tech

  some : 0 < length circuit.registers
  some = circuit.valid.some_register

  -- there are so many values of each kind
  arrivals_many : length report.schedule.at ≡ count
  arrivals_many = length-map parts.body.timings (λ row. row.arrival) ∙ is.timings_many

  merges_many : length report.topology.merges ≡ count - 1
  merges_many = length-map parts.body.merged (λ row. row.merge) ∙ is.merged_many

  reaches_many : length (reaches_in parts) ≡ count - 1
  reaches_many = length-map parts.body.merged (λ row. row.reach) ∙ is.merged_many

  shows_many : length (shows_in parts) ≡ count - 1
  shows_many = length-map parts.body.merged (λ row. row.show) ∙ is.merged_many

  places_many : length (places_in parts) ≡ 2 * count - 1
  places_many = length-map parts.body.placed (λ row. row.place) ∙ is.placed_many

  lengths_many : length report.tree.length ≡ 2 * count - 1
  lengths_many = length-map parts.body.placed (λ row. row.length) ∙ is.placed_many

  wires_many : length report.wires ≡ 2 * count - 1
  wires_many = length-map parts.body.placed (λ row. row.wire) ∙ is.placed_many

  -- and they are small
  pub arrivals_below : All (IsBelow (10 ^ 19)) report.schedule.at
  arrivals_below = told_all (DenotesTimed circuit scale) (timed_line circuit scale.den) _ _ _
      is.timings (λ row says. says.small)

  placed_all : {Y : Type 0} (f : NodeLine → Y) (P : Y → Type 0)
      → ((row : NodeLine) → SaysNode grid 0 (placed_line grid 0 row) row → P (f row))
      → All P (map f parts.body.placed)
  placed_all f P = search (arith, told_all)

  wires_small : All IsSmallWire report.wires
  wires_small = placed_all (λ row. row.wire) IsSmallWire (λ row says. says.wire)

  merged_all : {Y : Type 0} (f : MergeLine → Y) (P : Y → Type 0)
      → ((row : MergeLine) → SaysMerge circuit grid 0 (merged_line circuit grid 0 row) row
      → P (f row)) → All P (map f parts.body.merged)
  merged_all f P = search (arith, told_all)

  as_many : length sinks ≡ length report.schedule.at
  as_many = length-map report.schedule.at (sink_reach tech)

  -- the lists are as long as the circuit has them
  denoted_size : IsOfSize circuit report
  denoted_size = record {
    arrivals = arrivals_many;
    slacks = length-map parts.body.timings (λ row. row.slack) ∙ is.timings_many;
    merges = omega (arith, merges_many, some);
    shows = simp length-append (omega (arith, shows_many, some));
    reaches = simp length-append (omega (arith, as_many, arrivals_many, reaches_many, some));
    places = simp length-append (omega (arith, places_many, some));
    lengths = omega (arith, lengths_many, some);
    wires = omega (arith, wires_many, some);
    paths = is.shown.many;
    leads = is.leads_many;
    period_show = is.shown.among;
    each_show = All-push (ShowsAmong (length circuit.registers)) (shows_in parts)
        parts.body.source.show (merged_all _ _ (λ row says. says.among)) is.source.among;
    each_lead = λ k default within. (is.leads k default within 0).registers;
    each_path = is.shown.signals;
  }

  denoted_timing_bounds : HasTimingBounds report
  denoted_timing_bounds = record {
    period = is.period;
    den = refl;
    cycle = is.shown.weights;
    arrivals = arrivals_below;
    slacks = told_all (DenotesTimed circuit scale) (timed_line circuit scale.den) (λ row. row.slack)
        (AreSmallSlacks scale.den) parts.body.timings is.timings (λ row says. says.slacks);
    paths = is.shown.few;
    leads = λ k default within. (is.leads k default within 0).small;
  }

  sinks_below : All (IsBelow (10 ^ 32)) sinks
  sinks_below place default within =
      let there : place < length report.schedule.at = omega (arith, within, as_many) in
      subst (IsBelow (10 ^ 32)) (sym (get_or-map (sink_reach tech) report.schedule.at place (pos 0)
      default there)) (sink_below tech _ (arrivals_below place (pos 0) there))

  -- the root's wire
  root_within : length report.wires - 1 < length report.wires
  root_within = omega (arith, wires_many, some)

  root_small : IsSmallWire (get_or report.wires (length report.wires - 1) no_wire)
  root_small = wires_small (length report.wires - 1) no_wire root_within

  begin_below : IsPointBelow (10 ^ 32) (begin_of report.wires)
  begin_below =
      let wire = get_or report.wires (length report.wires - 1) no_wire in
      let there : 0 < wire.used = omega (arith, root_small.some) in
      subst (IsPointBelow (10 ^ 32)) (get_or-take wire.used wire.corners 0 origin there)
      (root_small.each 0 origin (simp length-take (omega (arith, root_small.padded.all))))

  -- a sink's reach is the first of its entries
  sink_at : (register : ℕ) → register < length report.schedule.at
      → get_or report.tree.reach register (pos 0)
      ≡ neg_ℤ (scheduled_length tech (arrival_of report.schedule.at register))
  sink_at register within = search (arith, as_many, get_or_append_left, length-append, get_or-map)

  -- the source stands where the root's wire begins
  source_at : (wire : Wire)
      → slice_get report.wires (root_of (length report.schedule.at)) ≡ Some wire
      → slice_get report.tree.place (source_of (length report.schedule.at))
      ≡ slice_get wire.corners 0
  source_at wire here =
      let root = root_of (length report.schedule.at) in
      let source = source_of (length report.schedule.at) in
      let last : length report.wires - 1 ≡ root =
      omega (arith, wires_many, arrivals_many, some) in
      let is : get_or report.wires (length report.wires - 1) no_wire ≡ wire =
      ap (λ n. get_or report.wires n no_wire) last
      ∙ get_or_from_slice_get report.wires root wire no_wire here in
      let corners = (subst IsSmallWire is root_small).padded.all in
      let suffix : length (places_in parts) ≡ source =
      omega (arith, places_many, arrivals_many, some) in
      let begin = begin_of report.wires in
      slice_get-get_or report.tree.place source origin
      (omega (arith, suffix, length_push (places_in parts) begin)) ∙ ap Some (get_or_push
      (places_in parts) begin origin source suffix ∙ ap (λ w. get_or w.corners 0 origin) is)
      ∙ sym (slice_get-get_or wire.corners 0 origin (omega (arith, corners)))

  denoted_tree_bounds : HasTreeBounds tech report
  denoted_tree_bounds =
      let same : length (shows_in parts) ≡ length report.topology.merges =
      shows_many ∙ sym merges_many in
      let suffix = parts.body.source.show ∷ [] in
      record {
        grid = refl;
        merges = merged_all _ _ (λ row says. says.merge);
        reaches = All-push (IsBelow (10 ^ 32)) (sinks ++ (reaches_in parts)) parts.body.source.reach
            (All-append (IsBelow (10 ^ 32)) sinks (reaches_in parts) sinks_below (merged_all _ _
            (λ row says. says.reach))) is.source.reach;
        places = All-push (IsPointBelow (10 ^ 32)) (places_in parts) (begin_of report.wires)
            (placed_all _ _ (λ row says. says.place)) begin_below;
        lengths = placed_all _ _ (λ row says. says.edge);
        wires = wires_small;
        total = is.total;
        merge_shows = subst (All IsMergeShow) (sym (take_at (shows_in parts) suffix
            (length report.topology.merges) same)) (merged_all _ _ (λ row says. says.show));
        source_show = subst (All IsSourceShow)
            (sym (drop_at (shows_in parts) suffix (length report.topology.merges) same))
            (All-cons IsSourceShow parts.body.source.show [] is.source.show (All-nil IsSourceShow));
        sinks = sink_at;
        source = source_at;
      }

  -- the numbers are within their bounds
  denoted_bounds : IsWithinBounds tech report
  denoted_bounds = record { timing = denoted_timing_bounds; tree = denoted_tree_bounds }

  -- ---- the lines

  -- the lines of the registers
  registers_same : lines_below (register_line_at circuit report) (length report.schedule.at)
      ≡ lines_of (timed_line circuit parts.heading.period.den) 0 parts.body.timings
  registers_same =
      let none : Slack = record { setup = None; hold = None } in
      let default : Timed = record { arrival = pos 0; slack = none } in
      ap (lines_below (register_line_at circuit report)) (length-map parts.body.timings
      (λ row. row.arrival)) ∙ numbered_rows _ _ _ 0 _ (λ place within.
      let number : place ≡ 0 + place = omega arith in
      let arrival = get_or-map (λ (row : Timed). row.arrival) parts.body.timings place default
      (pos 0) within in
      let slack = get_or-map (λ (row : Timed). row.slack) parts.body.timings place default none
      within in
      λ i. register_line circuit parts.heading.period.den (number i) (arrival i) (slack i))

  -- the line of a merge
  merge_same : (default : MergeLine) (place : ℕ) → place < length parts.body.merged
      → merge_line_at circuit report place
      ≡ merged_line circuit grid (count + place) (get_or parts.body.merged place default)
  merge_same default place within =
      search (arith, length-map, get_or_append_left, length-append, get_or-append-add, get_or-map)

  -- that of the source
  source_same : source_line circuit report ≡ sourced_line circuit grid parts.body.source
  source_same =
      let node = source_of (length report.schedule.at) in
      let suffix : length (sinks ++ (reaches_in parts)) ≡ node =
      simp length-append (omega (arith, as_many, arrivals_many, reaches_many, some)) in
      let reach = get_or_push (sinks ++ (reaches_in parts)) parts.body.source.reach (pos 0)
      node suffix
      in
      let show = get_or_push (shows_in parts) parts.body.source.show Root
      (length report.topology.merges)
      (shows_many ∙ sym merges_many) in
      λ i. codes "source" ∷ quotient_text (reach i) grid ∷ show_words circuit (show i)

  -- that of a node
  node_same : (default : NodeLine) (place : ℕ) → place < length parts.body.placed
      → node_line_at circuit report place
      ≡ placed_line grid (0 + place) (get_or parts.body.placed place default)
  node_same default place within =
      let number : place ≡ 0 + place = omega arith in
      let stands = get_or_append_left (places_in parts) (begin_of report.wires ∷ []) origin
      place (omega (arith, within, length-map parts.body.placed (λ row. row.place)))
      ∙ get_or-map (λ (row : NodeLine). row.place) parts.body.placed place default origin within in
      let edge = get_or-map (λ (row : NodeLine). row.length) parts.body.placed place default (pos 0)
      within in
      let wire = get_or-map (λ (row : NodeLine). row.wire) parts.body.placed place default no_wire
      within in
      λ i. placed_line grid (number i) (record { place = stands i; length = edge i; wire = wire i })

  -- the lines of the timing
  timing_same : timing_lines circuit report
      ≡ version_line parts.heading.version ∷ period_line parts.heading.period
      ∷ period_show_lines parts.heading.version circuit parts.shown.shown parts.shown.paths
      ++ count_line (codes "registers") count
      ∷ lines_of (timed_line circuit parts.heading.period.den) 0 parts.body.timings
      ++ map (lead_line circuit) parts.body.leads
  timing_same = search (arith, arrivals_many, registers_same)

  -- and those of the tree
  tree_same : tree_lines circuit report ≡ count_line (codes "merges")
      (count - 1) ∷ lines_of (merged_line circuit grid) count parts.body.merged
      ++ sourced_line circuit grid parts.body.source
      ∷ count_line (codes "nodes") (2 * count - 1) ∷ lines_of (placed_line grid) 0 parts.body.placed
      ++ (codes "wire" ∷ quotient_text parts.body.total.length grid ∷ []) ∷ []
  tree_same =
      let merge : MergeLine = record {
        merge = record { first = 0; second = 0 };
        reach = pos 0;
        show = Root;
      } in
      let node : NodeLine = record { place = origin; length = pos 0; wire = no_wire } in
      let merges = ap (lines_below (merge_line_at circuit report)) (length-map parts.body.merged
      (λ row. row.merge)) ∙ numbered_rows _ _ _ _ _ (merge_same merge) in
      let nodes = ap (lines_below (node_line_at circuit report)) (length-map parts.body.placed
      (λ row. row.length)) ∙ numbered_rows _ _ node 0 _ (node_same node) in
      λ i. count_line (codes "merges") (merges_many i) ∷ merges i
      ++ source_same i ∷ count_line (codes "nodes") (lengths_many i) ∷ nodes i
      ++ (codes "wire" ∷ quotient_text parts.body.total.length grid ∷ []) ∷ []

  -- the lines of the report are those that tell it
  pub lines_denoted : report_lines circuit report
      ≡ denoted_lines circuit (scale_in tech parts.heading.period) parts
  lines_denoted = ap₂ (λ timing tree. timing ++ tree) timing_same tree_same
      ∙ parts_apart (version_line parts.heading.version ∷ period_line parts.heading.period
      ∷ period_show_lines parts.heading.version circuit parts.shown.shown parts.shown.paths)
      _ _ _ _ _

-- ---- the text

module _ {circuit : Circuit} {tech : Tech} {text : List ℕ} {parts : Parts}
    (has : HasParts circuit tech text parts) where
  abbrev of_text : Scale
  of_text = scale_in tech parts.heading.period

  -- the lines that are read after what shows the period are those of the sections
  after_denoted : body_lines has.body ≡ lines_after circuit of_text parts
  after_denoted =
      let timings = has.body.timings.has in
      let merged = has.body.merged.has in
      let placed = has.body.placed.has in
      let timed = rows_lines _ _ (λ number words row denoted. denoted.line) 0 _ _ timings.each in
      let leads = rows_lines _ _ (λ number words row denoted. denoted.line) 0 _ _
      has.body.leads.each ∙ plain_lines (lead_line circuit) 0 parts.body.leads in
      let merges = rows_lines _ _ (λ number words row says. says.words_are) _ _ _ merged.each in
      let nodes = rows_lines _ _ (λ number words row says. says.words_are) 0 _ _ placed.each in
      λ i. count_line (codes "registers") (length circuit.registers) ∷ timed i ++ leads i
      ++ count_line (codes "merges") (length circuit.registers - 1) ∷ merges i
      ++ has.body.source.denoted.words_are i ∷ count_line (codes "nodes")
      (2 * length circuit.registers - 1) ∷ nodes i ++ has.body.total.denoted.0 i ∷ []

  -- the text is that of the lines of all parts
  parts_text : text ≡ text_of (denoted_lines circuit of_text parts)
  parts_text =
      let shown = period_show_lines parts.heading.version circuit parts.shown.shown
      parts.shown.paths in
      let heading = has.heading.lines of_text in
      let prefix = read_more heading _ _ _ has.shown.lines in
      let all = read_more prefix _ _ _ (body_read has.body) in
      let first : version_line parts.heading.version ∷ period_line parts.heading.period
      ∷ period_shown_line parts.heading.count ∷ drop 1 shown
      ≡ version_line parts.heading.version ∷ period_line parts.heading.period ∷ shown =
      ap (λ lines. version_line parts.heading.version ∷ period_line parts.heading.period ∷ lines)
      (sym has.shown.first) in
      all.text ∙ ap (λ bytes. text_of ((version_line parts.heading.version
      ∷ period_line parts.heading.period ∷ period_shown_line parts.heading.count ∷ drop 1 shown)
      ++ body_lines has.body) ++ bytes) has.ended
      ∙ append-nil (text_of ((version_line parts.heading.version
      ∷ period_line parts.heading.period ∷ period_shown_line parts.heading.count ∷ drop 1 shown)
      ++ body_lines has.body)) ∙ ap₂ (λ lines more. text_of (lines ++ more)) first after_denoted

  -- so it spells the report that is put together from them
  pub parts_spelled : Spells circuit tech text (report_denoted tech parts)
  parts_spelled =
      let is = parts_printable has in
      record {
        size = denoted_size is;
        bounds = denoted_bounds is;
        lines = parts_text ∙ ap text_of (sym (lines_denoted is));
      }
