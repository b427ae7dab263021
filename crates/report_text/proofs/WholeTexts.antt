-- A text spells one report at the most and has one fault at the most, and none where it spells one;
-- so what is read of it is that report, and a text with a fault is refused for that fault.
use Rattle.report_text.proofs.Vocabulary.{◌≡◌, ◌<◌, ◌≤◌, ◌+◌, ◌^◌, ℕ, suc, pos, Bool, true, false, cond, List, [], ◌∷◌, ◌++◌, All, map, take, drop, get_or, length, codes, refl, sym, ap, ap₂, ◌∙◌, subst, arith, ◌-◌, ◌*◌, zero, None, ◌≢◌, ◌⊎◌, inl, inr, Option, Some, Result, Ok, Err, IfErr, IfOk, flat_map, range_with_len, length-drop, same_lists, take-append-drop, same_Some, quotient_text, Circuit, Constraint, PeriodShow, Cycle, Floor, Point, Version, First, Second, Lead, Zero, Tight, Tech, Show, Pair, Sink, Root, Wire, IsPointBelow, HasSmallWeight, IsBetweenRegisters, IsSmallWire, ShowsAmong, HasSmallWeights, count_in, Spells, lead_line, path_line, pathed_lines, period_show_lines, show_words, version_line, Words, count_line, line_for, line_of, period_line, text_of, Report, one_register, one_signal, few_registers, Scale, Parts, Timed, MergeLine, NodeLine, SourceLine, denoted_lines, timed_line, lines_after, report_denoted, constraint_fields, length_field, slack_field, cycle_forms, forms_after, forms_of, lead_forms, scale_in, lines_of, DenotesConstraint, DenotesLead, IsFlawless, IsSmallScale, SaysMerge, SaysNode, SaysSource, coordinates, merged_line, placed_line, sourced_line, DenotesTimed, Left, LineForm, IsSmallCount, period_shown_line, HasFault, HasFirstFault, cycle_denoted, version_denoted, ReportFault, NoMemory, OneReport, unwrap_or}
use Rattle.report_text.specs.LineFields as field
use Rattle.report_text.specs.LineForms as form
use Rattle.report_text.proofs.AssemblyLemmas.{after_apart, ArePrintable, IsPrintableShow, IsTold, count_shown, cycle_told}
use Rattle.report_text.proofs.SpelledFields.{scale_small, IsSmallField, Values, one_value, one_values}
use Rattle.report_text.proofs.RowLemmas.{plain_lines, one_form}
use Rattle.report_text.proofs.TimingLines.{constraint_told, constraint_values, constraint_plain, count_plain, lead_plain, path_plain, period_plain, register_plain, show_plain, version_plain}
use Rattle.report_text.proofs.TreeLines.{small_length, merge_plain, node_plain, source_plain, total_plain}
use Rattle.report_text.proofs.BodyLemmas.{merge_forms, node_forms, register_forms, sections_apart}
use Rattle.report_text.proofs.WalkLemmas.{line_reads, one_first_fault}
use Rattle.report_text.proofs.OneLine.{lines_cut, one_text}
use Rattle.report_text.proofs.PartLemmas.{fault_by}
use Rattle.report_text.proofs.ReportWords.{AreLines, report_lines_are}
use Rattle.report_text.proofs.PartsOf.{report_printable, report_same, report_told}

-- ---- lists

-- items that are determined by their images are given in lists
one_map : {X Y : Type 0} (P : X → Type 0) (f : X → Y) (xs ys : List X) → All P xs → All P ys
    → ((x y : X) → P x → P y → f x ≡ f y → x ≡ y) → map f xs ≡ map f ys → xs ≡ ys
one_map P f [] [] each each' denoted same = refl
one_map P f (x ∷ xs) (y ∷ ys) each each' denoted same =
    ap₂ (λ a more. a ∷ more) (denoted x y (each 0 x (omega arith)) (each' 0 x (omega arith))
    (ap (λ l. get_or l 0 (f x)) same))
    (one_map P f xs ys (λ i d within. each (suc i) d (omega arith))
    (λ i d within. each' (suc i) d (omega arith)) denoted (ap (drop 1) same))
one_map P f xs ys each each' denoted same = absurd (omega (arith, ap length same))

-- ---- lines

-- the words of a line from a place on
rest_of : (place : ℕ) {words others : Words} → words ≡ others → drop place words ≡ drop place others
rest_of place same = ap (λ (words : Words). drop place words) same

-- the line at a place, and those from a place on
line_at : (place : ℕ) {lines others : List Words} → lines ≡ others
    → get_or lines place [] ≡ get_or others place []
line_at place same = ap (λ (lines : List Words). get_or lines place []) same

from_line : (place : ℕ) {lines others : List Words} → lines ≡ others
    → drop place lines ≡ drop place others
from_line place same = ap (λ (lines : List Words). drop place lines) same

-- a version is determined by its line
one_version : (version other : Version) → version_line version ≡ version_line other
    → version ≡ other
one_version First First same = refl
one_version Second Second same = refl
one_version version other same = search arith

module _ (circuit : Circuit) where
  -- a constraint of the circuit
  abbrev IsPrinted : Constraint → Type 0
  IsPrinted constraint = IsBetweenRegisters (length circuit.registers) constraint
      × HasSmallWeight constraint

  -- of two numbers in an order and back in it the first
  first_of : (setup : Bool) (first second : ℕ)
      → cond setup (cond setup first second) (cond setup second first) ≡ first
  first_of true first second = refl
  first_of false first second = refl

  one_constraint : (constraint other : Constraint) → IsPrinted constraint → IsPrinted other
      → line_for circuit constraint ≡ line_for circuit other → constraint ≡ other
  one_constraint a b is is' same =
      let (admitted, are) = constraint_told circuit a is.0 is.1 in
      let (admitted', are') = constraint_told circuit b is'.0 is'.1 in
      let values = one_values circuit constraint_fields
      (constraint_values a.setup a.tail a.head a.weight)
      (constraint_values b.setup b.tail b.head b.weight) (tt, (tt, (tt, (tt, tt)))) admitted
      admitted' (sym are ∙ same ∙ are') in
      let tail = sym (first_of a.setup a.tail a.head)
      ∙ ap (λ (vs : Values constraint_fields). cond vs.0 vs.1.0 vs.1.1.0) values
      ∙ first_of b.setup b.tail b.head in
      let head = sym (first_of a.setup a.head a.tail)
      ∙ ap (λ (vs : Values constraint_fields). cond vs.0 vs.1.1.0 vs.1.0) values
      ∙ first_of b.setup b.head b.tail in
      λ i. record {
        setup = (values i).0;
        tail = tail i;
        head = head i;
        weight = (values i).1.1.1.0;
      }

  one_lead : (lead other : Lead) → DenotesLead circuit (lead_line circuit lead) lead
      → DenotesLead circuit (lead_line circuit other) other
      → lead_line circuit lead ≡ lead_line circuit other → lead ≡ other
  one_lead Zero Zero says says' same = refl
  one_lead (Tight depth constraint) (Tight depth' constraint') says says' same =
      ap₂ (λ d c. Tight d c) (one_value circuit (field.Number 1 9999) depth _ (omega arith)
      (says.small.0, says.small.1) (says'.small.0, says'.small.1) (ap (λ (w : Words). get_or w 1 [])
      same)) (one_constraint _ _ (says.registers, says.small.2) (says'.registers, says'.small.2)
      (rest_of 2 same))
  one_lead (Tight depth constraint) Zero says says' same = search (arith, constraint_told)
  one_lead Zero (Tight depth constraint) says says' same = search (arith, constraint_told)

  one_path : (path other : List ℕ) → All (λ n. n < length circuit.signals) path
      → All (λ n. n < length circuit.signals) other
      → path_line circuit path ≡ path_line circuit other → path ≡ other
  one_path [] [] within within' same = refl
  one_path (first ∷ more) (first' ∷ more') within within' same =
      one_map _ _ _ _ within within' (one_signal circuit) (rest_of 2 same)
  one_path path other within within' same = absurd (omega (arith, ap length same))

  one_show : (show other : Show) → ShowsAmong (length circuit.registers) show
      → ShowsAmong (length circuit.registers) other
      → show_words circuit show ≡ show_words circuit other → show ≡ other
  one_show (Pair first second) (Pair first' second') among among' same =
      search (arith, one_register)
  one_show (Sink register) (Sink register') among among' same = search (arith, one_register)
  one_show Root Root among among' same = refl
  one_show show other among among' same = search arith

  module _ (scale : Scale) (small : IsSmallScale scale) where
    one_timed : (register : ℕ) (timed other : Timed)
        → DenotesTimed circuit scale register (timed_line circuit scale.den register timed) timed
        → DenotesTimed circuit scale register (timed_line circuit scale.den register other) other
        → timed_line circuit scale.den register timed ≡ timed_line circuit scale.den register other
        → timed ≡ other
    one_timed register timed other says says' words =
        let den : IsSmallField (slack_field scale) = (small.some_den, small.small_den, refl) in
        let same = one_values circuit
        (field.Steps scale.den (pos (10 ^ 19)) ∷ slack_field scale ∷ slack_field scale ∷ [])
        (timed.arrival, (timed.slack.setup, (timed.slack.hold, tt)))
        (other.arrival, (other.slack.setup, (other.slack.hold, tt)))
        ((small.some_den, small.small_den, omega arith), (den, (den, tt)))
        (says.small, (says.slacks.setup, (says.slacks.hold, tt)))
        (says'.small, (says'.slacks.setup, (says'.slacks.hold, tt))) (rest_of 1 words) in
        λ i. record {
          arrival = (same i).0;
          slack = record { setup = (same i).1.0; hold = (same i).1.1.0 };
        }

    one_merge : (node : ℕ) (line other : MergeLine)
        → SaysMerge circuit scale.grid node (merged_line circuit scale.grid node line) line
        → SaysMerge circuit scale.grid node (merged_line circuit scale.grid node other) other
        → merged_line circuit scale.grid node line ≡ merged_line circuit scale.grid node other
        → line ≡ other
    one_merge node line other says says' words =
        let same = one_values circuit
        (field.Number 0 9999 ∷ field.Number 0 9999 ∷ length_field scale ∷ [])
        (line.merge.first, (line.merge.second, (line.reach, tt)))
        (other.merge.first, (other.merge.second, (other.reach, tt)))
        (omega arith, (omega arith, (small_length scale small, tt)))
        ((omega arith, says.merge.first), ((omega arith, says.merge.second), (says.reach, tt)))
        ((omega arith, says'.merge.first), ((omega arith, says'.merge.second), (says'.reach, tt)))
        (ap (λ (w : Words). take 3 (drop 1 w)) words) in
        let show = one_show line.show other.show says.among says'.among (rest_of 4 words) in
        λ i. record {
          merge = record { first = (same i).0; second = (same i).1.0 };
          reach = (same i).1.1.0;
          show = show i;
        }

    one_source : (line other : SourceLine)
        → SaysSource circuit scale.grid (sourced_line circuit scale.grid line) line
        → SaysSource circuit scale.grid (sourced_line circuit scale.grid other) other
        → sourced_line circuit scale.grid line ≡ sourced_line circuit scale.grid other
        → line ≡ other
    one_source line other says says' words =
        let reach = one_value circuit (length_field scale) line.reach _ (small_length _ small)
        says.reach says'.reach (ap (λ (w : Words). get_or w 1 []) words) in
        let show = one_show _ _ says.among says'.among (rest_of 2 words) in
        λ i. record { reach = reach i; show = show i }

    one_points : (points others : List Point) → All (IsPointBelow (10 ^ 32)) points
        → All (IsPointBelow (10 ^ 32)) others
        → flat_map (coordinates scale.grid) points ≡ flat_map (coordinates scale.grid) others
        → points ≡ others
    one_points [] [] below below' same = refl
    one_points (point ∷ points) (other ∷ others) below below' same =
        let here = below 0 point (omega arith) in
        let here' = below' 0 point (omega arith) in
        let length = length_field scale in
        let first = one_values circuit (length ∷ length ∷ []) (point.x, (point.y, tt))
        (other.x, (other.y, tt)) (small_length scale small, (small_length scale small, tt))
        (here.x, (here.y, tt)) (here'.x, (here'.y, tt)) (ap (λ (w : Words). take 2 w) same) in
        let more = one_points points others (λ i d within. below (suc i) d (omega arith))
        (λ i d within. below' (suc i) d (omega arith)) (rest_of 2 same) in
        λ i. record { x = (first i).0; y = (first i).1.0 } ∷ more i
    one_points points others below below' same = absurd (omega (arith, ap length same))

    -- a wire is determined by its points
    one_wire : (wire other : Wire) → IsSmallWire wire → IsSmallWire other → wire.used ≡ other.used
        → take wire.used wire.corners ≡ take other.used other.corners → wire ≡ other
    one_wire wire other is is' used points =
        let origin : Point = record { x = pos 0; y = pos 0 } in
        let padding = same_padding origin (drop wire.used wire.corners)
        (drop other.used other.corners) (omega (arith, length-drop {A = Point})) is.padded.rest
        is'.padded.rest in
        let corners : wire.corners ≡ other.corners =
        sym (take-append-drop wire.used wire.corners) ∙ ap₂ (λ a b. a ++ b) points padding
        ∙ take-append-drop other.used other.corners in
        λ i. record { corners = corners i; used = used i }
      where
        same_padding : {X : Type 0} (x : X) (xs ys : List X) → length xs ≡ length ys
            → All (λ y. y ≡ x) xs → All (λ y. y ≡ x) ys → xs ≡ ys
        same_padding x xs ys many each each' = search (arith, same_lists)

    one_node : (node : ℕ) (line other : NodeLine)
        → SaysNode scale.grid node (placed_line scale.grid node line) line
        → SaysNode scale.grid node (placed_line scale.grid node other) other
        → placed_line scale.grid node line ≡ placed_line scale.grid node other → line ≡ other
    one_node node line other says says' words =
        let length = length_field scale in
        let few = small_length scale small in
        let same = one_values circuit (length ∷ length ∷ length ∷ field.Number 1 5 ∷ [])
        (line.place.x, (line.place.y, (line.length, (line.wire.used, tt))))
        (other.place.x, (other.place.y, (other.length, (other.wire.used, tt))))
        (few, (few, (few, (omega arith, tt))))
        (says.place.x, (says.place.y, (says.edge, ((says.wire.some, says.wire.few), tt))))
        (says'.place.x, (says'.place.y, (says'.edge, ((says'.wire.some, says'.wire.few), tt))))
        (ap (λ (w : Words). take 4 (drop 1 w)) words) in
        let points = one_points (take line.wire.used line.wire.corners)
        (take other.wire.used other.wire.corners) says.wire.each says'.wire.each
        (rest_of 5 words) in
        let wire = one_wire line.wire other.wire says.wire says'.wire
        (ap (λ values. values.1.1.1.0) same) points in
        λ i. record {
          place = record { x = (same i).0; y = (same i).1.0 };
          length = (same i).1.1.0;
          wire = wire i;
        }

-- ---- lists of lines

module _ {X : Type 0} (Says : ℕ → Words → X → Type 0) (line : ℕ → X → Words) (one : (number : ℕ)
    (row other : X) → Says number (line number row) row → Says number (line number other) other
    → line number row ≡ line number other → row ≡ other) where
  -- rows are determined by their lines, and so is what stands after them
  one_rows : (first : ℕ) (rows others : List X) (rest rest' : List Words)
      → length rows ≡ length others → All (IsTold Says line) rows → All (IsTold Says line) others
      → lines_of line first rows ++ rest ≡ lines_of line first others ++ rest'
      → (rows ≡ others) × (rest ≡ rest')
  one_rows first [] [] rest rest' many told told' same = (refl, same)
  one_rows first (row ∷ rows) (other ∷ others) rest rest' many told told' same =
      let (more, after) = one_rows (first + 1) rows others rest rest' (omega (arith, many))
      (λ k d within. told (suc k) d (omega (arith, within)))
      (λ k d within. told' (suc k) d (omega (arith, within))) (from_line 1 same) in (
        ap₂ (λ a more. a ∷ more) (one first row other (told 0 row (omega arith) first)
            (told' 0 row (omega arith) first) (line_at 0 same)) more,
        after,
      )
  one_rows first rows others rest rest' many told told' same = absurd (omega (arith, many))

module _ (circuit : Circuit) where
  -- constraints and their paths
  one_pathed : (cycle other : List Constraint) (paths paths' : List (List ℕ))
      (rest rest' : List Words) → length cycle ≡ length other → length paths ≡ length cycle
      → length paths' ≡ length other → All (IsPrinted circuit) cycle
      → All (IsPrinted circuit) other → All (All (λ n. n < length circuit.signals)) paths
      → All (All (λ n. n < length circuit.signals)) paths'
      → pathed_lines circuit cycle paths ++ rest ≡ pathed_lines circuit other paths' ++ rest'
      → (cycle ≡ other) × (paths ≡ paths') × (rest ≡ rest')
  one_pathed [] [] [] [] rest rest' many has has' each each' signals signals' same = search arith
  one_pathed (c ∷ cycle) (o ∷ other) (p ∷ paths) (p' ∷ paths') rest rest' many has has' each each'
      signals signals' same =
      let (cycles, ways, after) = one_pathed cycle other paths paths' rest rest' (omega arith)
      (omega arith) (omega arith) (λ i d within. each (suc i) d (omega arith))
      (λ i d within. each' (suc i) d (omega arith))
      (λ i d within. signals (suc i) d (omega arith))
      (λ i d within. signals' (suc i) d (omega arith)) (from_line 2 same) in (
        ap₂ (λ a more. a ∷ more) (one_constraint circuit c o (each 0 c (omega arith))
            (each' 0 c (omega arith)) (line_at 0 same)) cycles,
        ap₂ (λ a more. a ∷ more) (one_path circuit p p' (signals 0 p (omega arith))
            (signals' 0 p (omega arith)) (line_at 1 same)) ways,
        after,
      )
  one_pathed cycle other paths paths' rest rest' many has has' each each' signals signals' same =
      absurd (omega arith)

  -- how long a cycle is, by the line before it
  counts : (cycle other : List Constraint) → 1 ≤ length cycle → length cycle ≤ 9999
      → 1 ≤ length other → length other ≤ 9999 → count_line (codes "cycle")
      (length cycle) ≡ count_line (codes "cycle") (length other) → length cycle ≡ length other
  counts cycle other some few some' few' same =
      one_value circuit (field.Number 1 9999) (length cycle) (length other) (omega arith)
      (some, few) (some', few') (ap (λ (w : Words). get_or w 1 []) same)

  -- what shows a period
  one_shown : (version : Version) (shown other : PeriodShow) (paths paths' : List (List ℕ))
      (rest rest' : List Words) → IsPrintableShow circuit version shown paths
      → IsPrintableShow circuit version other paths'
      → period_show_lines version circuit shown paths ++ rest
      ≡ period_show_lines version circuit other paths' ++ rest'
      → (shown ≡ other) × (paths ≡ paths') × (rest ≡ rest')
  one_shown First (Cycle cycle) (Cycle other) [] [] rest rest' is is' same =
      let (cycles, after) = one_rows (λ number. DenotesConstraint circuit)
      (λ number. line_for circuit) (λ number c o says says'. one_constraint circuit c o
      (says.registers, says.weight) (says'.registers, says'.weight)) 0 cycle other rest rest'
      (counts cycle other is.weights.0 is.weights.1 is'.weights.0 is'.weights.1 (line_at 0 same))
      (cycle_told cycle is.among is.weights.2) (cycle_told other is'.among is'.weights.2)
      (rw (plain_lines (line_for circuit) 0 cycle, plain_lines (line_for circuit) 0 other)
      (from_line 1 same)) in
      (ap (λ c. Cycle c) cycles, refl, after)
  one_shown Second (Cycle cycle) (Cycle other) paths paths' rest rest' is is' same =
      search (arith, one_pathed, counts, line_at, from_line)
  one_shown First Floor Floor [] [] rest rest' is is' same = (refl, refl, from_line 1 same)
  one_shown Second Floor Floor [] [] rest rest' is is' same = (refl, refl, from_line 1 same)
  one_shown version shown other paths paths' rest rest' is is' same = search (arith, line_at)

-- ---- the parts

pub one_parts : {circuit : Circuit} {tech : Tech} {parts other : Parts}
    → ArePrintable circuit tech parts → ArePrintable circuit tech other
    → denoted_lines circuit (scale_in tech parts.heading.period) parts
    ≡ denoted_lines circuit (scale_in tech other.heading.period) other → parts ≡ other
one_parts {circuit} {tech} {parts} {other} is is' lines =
    let version = one_version parts.heading.version other.heading.version (line_at 0 lines) in
    let period = one_value circuit field.Period parts.heading.period other.heading.period tt
    is.period is'.period (ap (λ (w : Words). get_or w 1 []) (line_at 1 lines)) in
    let scale = scale_in tech parts.heading.period in
    let small = scale_small tech parts.heading.period is.period in
    let as_other : Parts = record {
      heading = record {
        version = parts.heading.version;
        period = parts.heading.period;
        count = other.heading.count;
      };
      shown = other.shown;
      body = other.body;
    } in
    let same : other ≡ as_other = λ i. record {
      heading = record {
        version = sym version i;
        period = sym period i;
        count = other.heading.count;
      };
      shown = other.shown;
      body = other.body;
    } in
    let of : ArePrintable circuit tech as_other = subst (ArePrintable circuit tech) same is' in
    let (shown, paths, after) = one_shown circuit parts.heading.version parts.shown.shown
    other.shown.shown parts.shown.paths other.shown.paths _ _ is.shown of.shown (from_line 2 (lines
    ∙ ap (λ (p : Parts). denoted_lines circuit (scale_in tech p.heading.period) p) same)) in
    let apart = sym (after_apart circuit scale parts) ∙ after
    ∙ after_apart circuit scale as_other in
    let timings = one_rows (DenotesTimed circuit scale) (timed_line circuit scale.den)
    (one_timed circuit scale small) 0 parts.body.timings other.body.timings _ _
    (is.timings_many ∙ sym of.timings_many) is.timings of.timings (from_line 1 apart) in
    let leads = one_rows (λ number. DenotesLead circuit) (λ number. lead_line circuit)
    (λ number. one_lead circuit) 0 parts.body.leads other.body.leads _ _
    (is.leads_many ∙ sym of.leads_many) is.leads of.leads timings.1 in
    let merged = one_rows (SaysMerge circuit scale.grid) (merged_line circuit scale.grid)
    (one_merge circuit scale small) (length circuit.registers) parts.body.merged other.body.merged
    _ _ (is.merged_many ∙ sym of.merged_many) is.merged of.merged (from_line 1 leads.1) in
    let source = one_source circuit scale small parts.body.source other.body.source is.source
    of.source (line_at 0 merged.1) in
    let placed = one_rows (SaysNode scale.grid) (placed_line scale.grid)
    (one_node circuit scale small) 0 parts.body.placed other.body.placed _ _
    (is.placed_many ∙ sym of.placed_many) is.placed of.placed (from_line 2 merged.1) in
    let total = one_value circuit (field.Steps scale.grid (pos (10 ^ 36))) parts.body.total.length
    other.body.total.length (small.some_grid, small.small_grid, omega arith) is.total of.total
    (ap (λ (w : Words). get_or w 1 []) (line_at 0 placed.1)) in
    let count = is.count ∙ ap count_shown shown ∙ sym is'.count in
    λ i. record {
      heading = record { version = version i; period = period i; count = count i };
      shown = record { shown = shown i; paths = paths i };
      body = record {
        timings = timings.0 i;
        leads = leads.0 i;
        merged = merged.0 i;
        source = source i;
        placed = placed.0 i;
        total = record { length = total i };
      };
    }

-- how many constraints show a period
small_shown : (shown : PeriodShow) → HasSmallWeights shown → IsSmallCount (count_shown shown)
small_shown (Cycle cycle) small = (small.0, small.1)
small_shown Floor small = tt

-- the first line of what shows it
shown_first : (circuit : Circuit) (version : Version) (shown : PeriodShow)
    (paths : List (List ℕ)) → period_show_lines version circuit shown paths
    ≡ period_shown_line (count_shown shown) ∷ drop 1 (period_show_lines version circuit shown paths)
shown_first circuit First (Cycle cycle) paths = refl
shown_first circuit First Floor paths = refl
shown_first circuit Second (Cycle cycle) paths = refl
shown_first circuit Second Floor paths = refl

module _ (circuit : Circuit) (scale : Scale) where
  -- there are as many lines as forms, and each is without a flaw by its form
  abbrev AreFlawless : List LineForm → List Words → Type 0
  AreFlawless [] [] = Unit {0}
  AreFlawless (due ∷ forms) (words ∷ lines) =
      IsFlawless circuit scale due words × AreFlawless forms lines
  AreFlawless forms lines = ⊥

  -- their text has no fault
  no_first_fault : (forms : List LineForm) (lines : List Words) (line : ℕ) → AreLines lines
      → AreFlawless forms lines → HasFirstFault circuit scale forms line (text_of lines) None
  no_first_fault [] [] line are flawless = refl
  no_first_fault (due ∷ forms) (words ∷ lines) line are flawless =
      let old : Left = record { line = line; text = line_of words ++ text_of lines } in
      ((line_reads circuit scale due words old (text_of lines) are.0 flawless.0 refl).read scale
      flawless.0).faults forms None (no_first_fault forms lines (line + 1) are.1 flawless.1)
  no_first_fault forms lines line are flawless = absurd flawless

  module _ (more : List LineForm) (rest : List Words) (after : AreFlawless more rest) where
    -- the lines of rows
    rows_flawless : {X : Type 0} (due : ℕ → LineForm) (Says : ℕ → Words → X → Type 0)
        (line : ℕ → X → Words) (first count : ℕ) (rows : List X) → length rows ≡ count
        → All (IsTold Says line) rows → ((number : ℕ) (row : X) → number < first + count
        → Says number (line number row) row → IsFlawless circuit scale (due number)
        (line number row)) → AreFlawless (map due (range_with_len first count) ++ more)
        (lines_of line first rows ++ rest)
    rows_flawless due Says line first zero [] many told plain = after
    rows_flawless due Says line first (suc count) (row ∷ rows) many told plain = (
      plain first row (omega arith) (told 0 row (omega arith) first),
      rows_flawless due Says line (first + 1) count rows (omega (arith, many))
          (λ k d within. told (suc k) d (omega (arith, within)))
          (λ number row within. plain number row (omega (arith, within))),
    )
    rows_flawless due Says line first count rows many told plain = absurd (omega (arith, many))

    leads_flawless : (version : Version) (count : ℕ) (leads : List Lead)
        → length leads ≡ count_in version count
        → All (IsTold (λ number. DenotesLead circuit) (λ number. lead_line circuit)) leads
        → AreFlawless (lead_forms version count ++ more)
        (lines_of (λ number. lead_line circuit) 0 leads ++ rest)
    leads_flawless version count leads many told = rows_flawless (λ number. form.Lead)
        (λ number. DenotesLead circuit) (λ number. lead_line circuit) 0 (count_in version count)
        leads many told (λ number lead within says. lead_plain circuit scale lead says.registers
        says.small)

    -- constraints and their paths
    pathed_flawless : (cycle : List Constraint) (paths : List (List ℕ))
        → length paths ≡ length cycle → All (IsBetweenRegisters (length circuit.registers)) cycle
        → All HasSmallWeight cycle → All (All (λ number. number < length circuit.signals)) paths
        → All (λ path. length path ≤ 65536) paths
        → AreFlawless (cycle_forms Second (length cycle) ++ more)
        (pathed_lines circuit cycle paths ++ rest)
    pathed_flawless [] paths many among small signals few = after
    pathed_flawless (constraint ∷ cycle) [] many among small signals few = search arith
    pathed_flawless (constraint ∷ cycle) (path ∷ paths) many among small signals few = (
      constraint_plain circuit scale constraint (among 0 constraint (omega arith))
          (small 0 constraint (omega arith)),
      (
        path_plain circuit scale path (signals 0 path (omega arith)) (few 0 path (omega arith)),
        pathed_flawless cycle paths (omega (arith, many))
            (λ k d within. among (suc k) d (omega (arith, within)))
            (λ k d within. small (suc k) d (omega (arith, within)))
            (λ k d within. signals (suc k) d (omega (arith, within)))
            (λ k d within. few (suc k) d (omega (arith, within))),
      ),
    )

    shown_flawless : (version : Version) (shown : PeriodShow) (paths : List (List ℕ))
        → IsPrintableShow circuit version shown paths
        → AreFlawless (form.Show ∷ (cycle_forms version (unwrap_or (count_shown shown) 0) ++ more))
        (period_show_lines version circuit shown paths ++ rest)
    shown_flawless First (Cycle cycle) paths is = (
      show_plain circuit scale (count_shown (Cycle cycle)) (small_shown (Cycle cycle) is.weights),
      rw (← one_form form.Constraint 0 (length cycle), ← plain_lines (line_for circuit) 0 cycle)
          (rows_flawless (λ number. form.Constraint) (λ number. DenotesConstraint circuit)
          (λ number. line_for circuit) 0 (length cycle) cycle refl
          (cycle_told cycle is.among is.weights.2)
          (λ number constraint within says.
          constraint_plain circuit scale constraint says.registers says.weight)),
    )
    shown_flawless Second (Cycle cycle) paths is = (
      show_plain circuit scale (count_shown (Cycle cycle)) (small_shown (Cycle cycle) is.weights),
      pathed_flawless cycle paths is.many is.among is.weights.2 is.signals is.few,
    )
    shown_flawless First Floor paths is = (show_plain circuit scale (count_shown Floor) tt, after)
    shown_flawless Second Floor paths is = (show_plain circuit scale (count_shown Floor) tt, after)

-- ---- the parts

module _ {circuit : Circuit} {tech : Tech} {parts : Parts}
    (is : ArePrintable circuit tech parts) where
  abbrev scale : Scale
  scale = scale_in tech parts.heading.period

  abbrev count : ℕ
  count = length circuit.registers

  parts_flawless : AreFlawless circuit scale
      (forms_of parts.heading.version (unwrap_or (count_shown parts.shown.shown) 0) count)
      (denoted_lines circuit scale parts)
  parts_flawless =
      let small = scale_small tech parts.heading.period is.period in
      let few = few_registers circuit in
      let last : List Words =
      (codes "wire" ∷ quotient_text parts.body.total.length scale.grid ∷ []) ∷ [] in
      let nodes_forms : List LineForm = form.Source ∷ (node_forms count ++ form.Total ∷ []) in
      let nodes_lines : List Words = sourced_line circuit scale.grid parts.body.source
      ∷ count_line (codes "nodes") (2 * count - 1)
      ∷ (lines_of (placed_line scale.grid) 0 parts.body.placed ++ last) in
      let merges_lines : List Words = count_line (codes "merges") (count - 1)
      ∷ (lines_of (merged_line circuit scale.grid) count parts.body.merged ++ nodes_lines) in
      let nodes : AreFlawless circuit scale nodes_forms nodes_lines = (
        source_plain circuit scale _ parts.body.source small is.source,
        (
          count_plain circuit scale (codes "nodes") (2 * count - 1) (omega (arith, few)),
          rows_flawless circuit scale (form.Total ∷ []) last
              (total_plain circuit scale parts.body.total.length small is.total, tt) form.Node
              (SaysNode scale.grid) (placed_line scale.grid) 0 (2 * count - 1) parts.body.placed
              is.placed_many is.placed (λ number row within says.
              node_plain circuit scale number _ row small (omega (arith, few, within)) says),
        ),
      ) in
      let merges : AreFlawless circuit scale (merge_forms count ++ nodes_forms) merges_lines = (
        count_plain circuit scale (codes "merges") (count - 1) (omega (arith, few)),
        rows_flawless circuit scale nodes_forms nodes_lines nodes form.Merge
            (SaysMerge circuit scale.grid) (merged_line circuit scale.grid) count (count - 1)
            parts.body.merged is.merged_many is.merged (λ number row within says.
            merge_plain circuit scale number _ row small (omega (arith, few, within)) says),
      ) in
      let leads_forms : List LineForm =
      lead_forms parts.heading.version count ++ (merge_forms count ++ nodes_forms) in
      let leads_lines : List Words =
      lines_of (λ number. lead_line circuit) 0 parts.body.leads ++ merges_lines in
      let registers : AreFlawless circuit scale (register_forms count ++ leads_forms)
      (count_line (codes "registers") count
      ∷ (lines_of (timed_line circuit scale.den) 0 parts.body.timings ++ leads_lines)) = (
        count_plain circuit scale (codes "registers") count (omega (arith, few)),
        rows_flawless circuit scale leads_forms leads_lines
            (leads_flawless circuit scale (merge_forms count ++ nodes_forms) merges_lines merges
            parts.heading.version count parts.body.leads is.leads_many is.leads) form.Register
            (DenotesTimed circuit scale) (timed_line circuit scale.den) 0 count
            parts.body.timings is.timings_many is.timings (λ number row within says.
            register_plain circuit scale number row small (omega (arith, within)) says.small
            says.slacks),
      ) in (
        version_plain circuit scale parts.heading.version,
        (
          period_plain circuit scale parts.heading.period is.period,
          shown_flawless circuit scale (forms_after parts.heading.version count)
              (lines_after circuit scale parts)
              (subst (λ forms. AreFlawless circuit scale forms (lines_after circuit scale parts))
              (sym (sections_apart (register_forms count) (lead_forms parts.heading.version count)
              (merge_forms count) (form.Source ∷ node_forms count) (form.Total ∷ [])))
              (subst (AreFlawless circuit scale (register_forms count ++ leads_forms))
              (sym (after_apart circuit scale parts)) registers))
              parts.heading.version parts.shown.shown parts.shown.paths is.shown,
        ),
      )

  -- so their text has no fault
  pub parts_sound : AreLines (denoted_lines circuit scale parts)
      → HasFault circuit tech (text_of (denoted_lines circuit scale parts)) None
  parts_sound are =
      let lines = denoted_lines circuit scale parts in
      fault_by (text_of lines) parts.heading _ (lines_cut lines are
      ∙ ap (λ shows. version_line parts.heading.version ∷ period_line parts.heading.period
      ∷ ((shows ++ lines_after circuit scale parts) ++ ([] ∷ []) ∷ []))
      (shown_first circuit parts.heading.version parts.shown.shown parts.shown.paths
      ∙ ap (λ count. period_shown_line count ∷ drop 1
      (period_show_lines parts.heading.version circuit
      parts.shown.shown parts.shown.paths)) (sym is.count))) is.period
      (subst IsSmallCount (sym is.count) (small_shown parts.shown.shown is.shown.weights)) circuit
      tech None (subst (λ counted. HasFirstFault circuit scale (forms_of parts.heading.version
      (unwrap_or counted 0) count) 1 (text_of lines) None) (sym is.count)
      (no_first_fault circuit scale
      (forms_of parts.heading.version (unwrap_or (count_shown parts.shown.shown) 0) count) lines 1
      are
      parts_flawless))

-- two reports of a text are the same
pub one_report : OneReport
one_report circuit tech text report other spells spells' =
    let same = one_text _ _ (report_lines_are circuit report) (report_lines_are circuit other)
    (sym spells.lines ∙ spells'.lines) in
    let is = report_printable _ tech _ spells.size spells.bounds in
    let is' = report_printable _ tech _ spells'.size spells'.bounds in
    sym (report_same _ tech _ spells.size spells.bounds) ∙ ap (report_denoted tech) (one_parts is
    is' (report_told _ tech _ spells.size spells.bounds ∙ same ∙ sym (report_told _ tech _
    spells'.size spells'.bounds))) ∙ report_same _ tech _ spells'.size spells'.bounds

-- two faults of a text as a report are the same
pub one_fault : (circuit : Circuit) (tech : Tech) (text : List ℕ) (fault other : Option ReportFault)
    → HasFault circuit tech text fault → HasFault circuit tech text other → fault ≡ other
one_fault circuit tech text fault other is is' =
    one_first_fault circuit _ (forms_of (version_denoted text) (cycle_denoted text)
    (length circuit.registers)) 1 text _ other is is'

-- a text that spells a report has none
pub no_fault : (circuit : Circuit) (tech : Tech) (text : List ℕ) (report : Report)
    → Spells circuit tech text report → HasFault circuit tech text None
no_fault circuit tech text report spells =
    let told = sym (report_told _ tech _ spells.size spells.bounds) in
    subst (λ (t : List ℕ). HasFault circuit tech t None) (sym (spells.lines ∙ ap text_of told))
    (parts_sound (report_printable _ tech _ spells.size spells.bounds) (subst AreLines told
    (report_lines_are circuit report)))

-- a fault is want of memory or it isn't
memory_or_not : (fault : ReportFault) → (fault ≡ NoMemory) ⊎ (fault ≢ NoMemory)
memory_or_not NoMemory = inl refl
memory_or_not fault = inr (λ same. cc)

-- a reader that answers a report only where the text spells it, and a fault only where the text has
-- it, unless for want of memory
module _ (circuit : Circuit) (tech : Tech) (text : List ℕ) where
  -- answers each report that a text spells
  pub spelled_read : (result : Result Report ReportFault) → IfOk result (Spells circuit tech text)
      → IfErr result (λ fault. fault ≢ NoMemory → HasFault circuit tech text (Some fault))
      → (report : Report) → Spells circuit tech text report
      → (result ≡ Ok report) ⊎ (result ≡ Err NoMemory)
  spelled_read (Ok read) is fault report spells =
      inl (ap Ok (one_report circuit tech text read report is spells))
  spelled_read (Err found) is fault report spells = elim (memory_or_not found) [
    | inl memory ↦ inr (ap Err memory)
    | inr named ↦
        let some = one_fault circuit tech text (Some found) None (fault named)
        (no_fault circuit tech text report spells) in
        cc
  ]

  -- and each fault that a text has
  pub fault_read : (result : Result Report ReportFault) → IfOk result (Spells circuit tech text)
      → IfErr result (λ fault. fault ≢ NoMemory → HasFault circuit tech text (Some fault))
      → (fault : ReportFault) → HasFault circuit tech text (Some fault)
      → (result ≡ Err fault) ⊎ (result ≡ Err NoMemory)
  fault_read (Ok read) is has fault found =
      let some = one_fault circuit tech text (Some fault) None found
      (no_fault circuit tech text read is) in
      cc
  fault_read (Err other) is has fault found = elim (memory_or_not other) [
    | inl memory ↦ inr (ap Err memory)
    | inr named ↦ inl (ap Err (same_Some other fault
        (one_fault circuit tech text (Some other) (Some fault) (has named) found)))
  ]
