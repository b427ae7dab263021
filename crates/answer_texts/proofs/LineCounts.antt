-- How the lines of each text are counted.
use Rattle.answer_texts.proofs.Vocabulary.{◌≡◌, ◌<◌, ◌≤◌, ◌≢◌, ◌+◌, ◌*◌, ◌++◌, ℕ, suc, List, [], ◌∷◌, length, map, All, AllPairs, refl, sym, ap, ◌∙◌, subst, append-nil, append_assoc, length-append, codes, arith, Decides-eqb, length-map, All-map, All-contains, Fraction, Circuit, Constraint, PeriodShow, Cycle, Floor, Report, First, Second, Schedule, Slack, Tech, IsCycle, IsForbidding, IsPeriodShow, Words, count_line, line_for, cycle_lines, count_in, IsOfSize, pathed_lines, period_show_lines, lines_below, lead_line, merge_line_at, source_line, node_line_at, length_text, tree_lines, report_lines, tails_within, arrival_line, arrival_lines, never_lines}
use Rattle.std.proofs.lemmas.Fmt.{decimal_is_IsNumeral}
use Rattle.std.proofs.lemmas.List.FromFn.{length-map-range_with_len}
use Rattle.std.proofs.lemmas.List.Kept.{AllPairs-cons}
use Rattle.std.proofs.lemmas.Map.Made.{IsDistinct-from_AllPairs}
use Rattle.std.proofs.lemmas.Map.Views.{Contains-from_any}
use Rattle.std.proofs.lemmas.Map.Steps.{length-le_from_distinct_below}
use Rattle.answer_texts.specs.Types.{Version}
use Rattle.cts_model.specs.Vocabulary.{register_line_at}
use Rattle.answer_texts.specs.ScheduleTexts.{scheduled_line_at as register_line_of, register_lines}
use Rattle.answer_texts.proofs.CountedLines.{number_in, AreCounted, counted_none, counted_section, counted_line, counted_alone}

-- ---- small counts

-- registers that are tails once are numbers that differ
tails_apart : (cycle : List Constraint) → AllPairs (λ first second. first.tail ≢ second.tail) cycle
    → AllPairs (λ x y. x ≢ y) (map (λ constraint. constraint.tail) cycle)
tails_apart [] apart = λ i j d before within. absurd (omega arith)
tails_apart (constraint ∷ cycle) apart =
    AllPairs-cons (λ x y. x ≢ y) constraint.tail (map (λ (c : Constraint). c.tail) cycle)
    (All-map (λ tail. constraint.tail ≢ tail) (λ (c : Constraint). c.tail) cycle
    (λ j d within. apart 0 (suc j) d (omega arith) (omega arith)))
    (tails_apart cycle (λ i j d before within. apart (suc i) (suc j) d (omega arith) (omega arith)))

-- there are few registers
few_registers : (circuit : Circuit) → length circuit.registers ≤ 4097
few_registers circuit = grind (arith, circuit.valid.few_registers)

-- and a cycle of constraints between them has at most as many constraints
pub few_constraints : (circuit : Circuit) (cycle : List Constraint)
    → All (λ constraint. constraint.tail < length circuit.registers) cycle → IsCycle cycle
    → length cycle ≤ 4097
few_constraints circuit cycle between is_cycle =
    let tails = map (λ (constraint : Constraint). constraint.tail) cycle in
    let within = All-map (λ tail. tail < length circuit.registers)
    (λ (constraint : Constraint). constraint.tail) cycle between in
    let few = length-le_from_distinct_below tails (length circuit.registers)
    (IsDistinct-from_AllPairs Decides-eqb tails (tails_apart cycle is_cycle.once))
    (λ tail found. All-contains (λ t. t < length circuit.registers) tails tail within
    (Contains-from_any (λ x y. (Decides-eqb x y).0) tail tails found)) in
    omega (
      arith,
      few_registers circuit,
      length-map cycle (λ (constraint : Constraint). constraint.tail),
    )

-- a line of a word and a number says that number
number_in-count_line : (word : List ℕ) (count : ℕ) → count ≤ 9999
    → number_in (count_line word count) ≡ count
number_in-count_line word count small = (decimal_is_IsNumeral count (omega arith)).1

-- ---- sections

-- a count, and a line for each number below it
pub counted_below : {word : List ℕ} {rest : List Words} {plan : List ℕ} (line_at : ℕ → Words)
    (count : ℕ) → count ≤ 9999 → AreCounted plan rest
    → AreCounted (1 ∷ plan) (count_line word count ∷ (lines_below line_at count ++ rest))
counted_below {word} line_at count small counted =
    counted_section (lines_below line_at count)
    (omega (
      arith,
      length-map-range_with_len line_at 0 count,
      number_in-count_line word count small,
    )) counted

-- the registers of a schedule
pub counted_registers : (circuit : Circuit) (schedule : Schedule) (slacks : List Slack)
    → length schedule.at ≡ length circuit.registers
    → AreCounted (1 ∷ []) (register_lines circuit schedule slacks)
counted_registers circuit schedule slacks as_many =
    subst (AreCounted (1 ∷ [])) (append-nil (register_lines circuit schedule slacks))
    (counted_below (register_line_of circuit schedule slacks) (length schedule.at)
    (omega (arith, as_many, few_registers circuit)) counted_none)

-- or of one alone
pub counted_arrivals : (circuit : Circuit) (schedule : Schedule)
    → length schedule.at ≡ length circuit.registers
    → AreCounted (1 ∷ []) (arrival_lines circuit schedule)
counted_arrivals circuit schedule as_many =
    subst (AreCounted (1 ∷ [])) (append-nil (arrival_lines circuit schedule))
    (counted_below (arrival_line circuit schedule) (length schedule.at)
    (omega (arith, as_many, few_registers circuit)) counted_none)

-- how many lines a version has for each constraint of a cycle, and for each register
abbrev pub lines_each : Version → ℕ
lines_each First = 1
lines_each Second = 2

-- the plan of a report: its version, its period, what shows it, the registers with their leads, the
-- merges, the source, the nodes and the wire
abbrev pub report_plan : Version → List ℕ
report_plan version =
    0 ∷ 0 ∷ lines_each version ∷ lines_each version ∷ 1 ∷ 0 ∷ 1 ∷ 0 ∷ []

-- two lines for each constraint
length-pathed_lines : (circuit : Circuit) (cycle : List Constraint) (paths : List (List ℕ))
    → length (pathed_lines circuit cycle paths) ≡ length cycle + length cycle
length-pathed_lines circuit [] paths = refl
length-pathed_lines circuit (constraint ∷ cycle) [] =
    let more = length-pathed_lines circuit cycle [] in omega arith
length-pathed_lines circuit (constraint ∷ cycle) (path ∷ paths) =
    let more = length-pathed_lines circuit cycle paths in omega arith

-- a cycle of few constraints
pub counted_cycle : {rest : List Words} {plan : List ℕ} (circuit : Circuit)
    (cycle : List Constraint) → length cycle ≤ 4097 → AreCounted plan rest
    → AreCounted (1 ∷ plan) (cycle_lines circuit cycle ++ rest)
counted_cycle circuit cycle few counted =
    counted_section (map (line_for circuit) cycle)
    (omega (
      arith,
      length-map cycle (line_for circuit),
      number_in-count_line (codes "cycle") (length cycle) (omega (arith, few)),
    )) counted

module _ (circuit : Circuit) (tech : Tech) where
  -- what shows a period
  pub counted_show : {rest : List Words} {plan : List ℕ} (version : Version) (period : Fraction)
      (shown : PeriodShow) (paths : List (List ℕ)) → IsPeriodShow circuit tech period shown
      → AreCounted plan rest → AreCounted (lines_each version ∷ plan)
      (period_show_lines version circuit shown paths ++ rest)
  counted_show First period (Cycle cycle) paths shows counted =
      counted_cycle circuit cycle
      (few_constraints circuit cycle (tails_within circuit tech cycle shows.of_circuit)
      shows.shows.is_cycle) counted
  counted_show Second period (Cycle cycle) paths shows counted =
      let few = few_constraints circuit cycle (tails_within circuit tech cycle shows.of_circuit)
      shows.shows.is_cycle in
      counted_section (pathed_lines circuit cycle paths)
      (omega (
        arith,
        length-pathed_lines circuit cycle paths,
        number_in-count_line (codes "cycle") (length cycle) (omega (arith, few)),
      )) counted
  counted_show First period Floor paths shows counted = counted_section [] refl counted
  counted_show Second period Floor paths shows counted = counted_section [] refl counted

  -- what forbids every period
  pub counted_never : (cycle : List Constraint) → IsForbidding circuit tech cycle
      → AreCounted (0 ∷ 1 ∷ []) (never_lines circuit cycle)
  counted_never cycle never =
      counted_line (subst (AreCounted (1 ∷ [])) (append-nil (cycle_lines circuit cycle))
      (counted_cycle circuit cycle
      (few_constraints circuit cycle (tails_within circuit tech cycle never.of_circuit)
      never.forbids.is_cycle) counted_none))

-- ---- reports

-- the registers of a version, each with its lead if leads are printed
each_register : (version : Version) (registers : ℕ)
    → registers + count_in version registers ≡ lines_each version * registers
each_register First registers = omega arith
each_register Second registers = omega arith

module _ (circuit : Circuit) (report : Report) (size : IsOfSize circuit report) where
  -- the lines of the tree
  counted_tree : AreCounted (1 ∷ 0 ∷ 1 ∷ 0 ∷ []) (tree_lines circuit report)
  counted_tree =
      let merges = length report.topology.merges in
      let nodes = length report.tree.length in
      let after = source_line circuit report ∷ count_line (codes "nodes") nodes
      ∷ lines_below (node_line_at circuit report) nodes in
      let wire = (codes "wire" ∷ length_text report report.total ∷ []) ∷ [] in
      subst (λ lines. AreCounted (1 ∷ 0 ∷ 1 ∷ 0 ∷ []) (count_line (codes "merges") merges ∷ lines))
      (sym (append_assoc (lines_below (merge_line_at circuit report) merges) after wire))
      (counted_below (merge_line_at circuit report) merges
      (omega (arith, size.merges, few_registers circuit))
      (counted_line (counted_below (node_line_at circuit report) nodes
      (omega (arith, size.lengths, few_registers circuit)) (counted_alone wire))))

  -- and all of them
  pub counted_report : (tech : Tech) → IsPeriodShow circuit tech report.period report.shown
      → AreCounted (report_plan report.version) (report_lines circuit report)
  counted_report tech shows =
      let version = report.version in
      let registers = length report.schedule.at in
      let each = lines_below (register_line_at circuit report) registers in
      let leads = map (lead_line circuit) report.leads in
      let count = count_line (codes "registers") registers in
      let show = period_show_lines version circuit report.shown report.paths in
      let tree = tree_lines circuit report in
      let as_many : length (each ++ leads) ≡ lines_each version * number_in count =
      length-append each leads
      ∙ omega (
        arith,
        length-map-range_with_len (register_line_at circuit report) 0 registers,
        length-map report.leads (lead_line circuit),
        size.arrivals,
        size.leads,
      )
      ∙ each_register version (length circuit.registers)
      ∙ ap (λ n. lines_each version * n) (sym (number_in-count_line (codes "registers") registers
      (omega (arith, size.arrivals, few_registers circuit)) ∙ size.arrivals)) in
      let regrouped : ((show ++ (count ∷ each)) ++ leads) ++ tree
      ≡ show ++ (count ∷ ((each ++ leads) ++ tree)) =
      ap (λ lines. lines ++ tree) (append_assoc show (count ∷ each) leads)
      ∙ append_assoc show (count ∷ (each ++ leads)) tree in
      counted_line (counted_line (subst (AreCounted _) (sym regrouped)
      (counted_show circuit tech version report.period report.shown report.paths shows
      (counted_section (each ++ leads) as_many counted_tree))))
