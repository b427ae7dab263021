-- A text without a fault spells a report; so each text has a fault as a report or spells one.
use Rattle.report_text.proofs.Vocabulary.{Constraint, map, pos, ◌≡◌, ◌==◌, ℕ, suc, false, Option, Some, None, List, [], ◌∷◌, ◌++◌, length, if◌then◌else◌, refl, sym, ap, ◌∙◌, subst, append-nil, arith, ◌<◌, ◌≤◌, ◌+◌, ◌-◌, ◌*◌, ◌^◌, append_assoc, zero, Bool, true, take, drop, inl, inr, range_with_len, position, ne_eqb, none-some, length-take, Circuit, Cycle, Floor, Report, Version, First, Second, Tech, Spells, Words, count_line, few_registers, Extra, BadLine, Missing, LineForm, Scale, Heading, Parts, cycle_forms, forms_after, lead_forms, fields_of, forms_of, HasHeading, HasShown, IsSmallCount, HasParts, scale_in, whole, is_line_feed, spaced_words, HasFault, cycle_denoted, scale_denoted, version_denoted, HasFirstFault, flaw_fault, IsFlawless, DenotesConstraint, DenotesLead, DenotesPath, report_denoted, Left, ReadsLine, DenotesTimed, TakesLine, DenotesLine, HasBody, count_in, Counted, HasPathed, HasRows, IsSmallScale, SaysMerge, SaysNode, SaysSource, Flaw, LineHasFlaw, ReportFault, HasFaultOrReport, codes, unwrap_or, wire_line, IsBelow}
use Rattle.cts_model.specs.declared.report.Version.TheVariants as version
use Rattle.report_text.specs.declared.tree_values.TotalLine.{TotalLine}
use Rattle.report_text.specs.LineForms as form
use Rattle.report_text.proofs.SpelledFields.{scale_small}
use Rattle.report_text.proofs.BodyLemmas.{cycle_shown, heading_read, pathed_shown, merge_forms, node_forms, register_forms, sections_apart}
use Rattle.report_text.proofs.PartLemmas.{forms_denoted}
use Rattle.report_text.proofs.AssemblyLemmas.{parts_spelled}
use Rattle.report_text.proofs.TimingLines.{period_found, show_found, version_found, constraint_found, count_found, lead_found, path_found, timed_found}
use Rattle.report_text.proofs.WalkLemmas.{IsFaultAt, IsJudged, read_none, cut_within, line_read}
use Rattle.report_text.proofs.RowLemmas.{no_rows, one_form, pathed_next, rows_next}
use Rattle.report_text.proofs.TreeLines.{merge_found, node_found, source_found, total_found}
use Rattle.report_text.proofs.JudgedWords.{line_judged}

-- by these forms there is no fault in what is left
abbrev pub IsSound : Circuit → Scale → List LineForm → Left → Type 0
IsSound circuit scale forms left = HasFirstFault circuit scale forms left.line left.text None

-- a value that is given up to a place, and after it no fault by the forms that are to follow
pub record Passed {X : Type 0} (circuit : Circuit) (scale : Scale) (more : List LineForm)
    (Has : Left → X → Type 0) : Type 0 where
  pub new : Left
  pub value : X
  pub has : Has new value
  pub rest : IsSound circuit scale more new

-- the words of the next line
record PassedLine (circuit : Circuit) (scale : Scale) (due : LineForm) (more : List LineForm)
    (old : Left) : Type 0 where
  words : Words
  new : Left
  line : ReadsLine circuit scale due words old new
  rest : IsSound circuit scale more new

-- a line that ends there is taken
line_taken : (old : Left) (end : ℕ) → (length old.text == 0) ≡ false
    → position is_line_feed old.text ≡ Some end → TakesLine old (take end old.text)
    (record { line = old.line + 1; text = drop (end + 1) old.text })
line_taken old end some found = search (arith, cut_within, length-take)

line_passed : (circuit : Circuit) (scale : Scale) (due : LineForm) (more : List LineForm)
    (old : Left)
    → IsSound circuit scale (due ∷ more) old → PassedLine circuit scale due more old
line_passed circuit scale due more old sound =
    at (length old.text == 0) (position is_line_feed old.text) refl refl sound
  where
    at : (none : Bool) (end : Option ℕ) → (length old.text == 0) ≡ none
        → position is_line_feed old.text ≡ end
        → IsFaultAt circuit scale due more old.line old.text None none end
        → PassedLine circuit scale due more old
    at true end some found is = absurd (none-some (Missing old.line) is)
    at false None some found is = absurd (none-some (BadLine old.line) is)
    at false (Some end) some found (None, flawless, rest) = record {
      words = spaced_words (take end old.text);
      new = record { line = old.line + 1; text = drop (end + 1) old.text };
      line = line_read (line_taken old end some found) _ _ due _ refl flawless;
      rest = rest;
    }
    at false (Some end) some found (Some flaw, has, is) = search (arith, none-some)

-- where words without a flaw tell a value, the next line does
pub denoted_passed : {X : Type 0} (circuit : Circuit)
    (scale : Scale) (due : LineForm) (more : List LineForm) → (Denotes : Words → X → Type 0)
    (old : Left) → ((words : Words) → 0 < length words → IsFlawless circuit scale due words
    → (value : X) × Denotes words value) → IsSound circuit scale (due ∷ more) old
    → Passed circuit scale more (DenotesLine circuit scale due Denotes old)
denoted_passed circuit scale due more Denotes old denotes sound =
    let passed = line_passed circuit scale due more old sound in
    let (value, denoted) = denotes passed.words passed.line.some passed.line.flawless in
    record {
      new = passed.new;
      value = value;
      has = record { words = passed.words; line = passed.line; denoted = denoted };
      rest = passed.rest;
    }

-- so many steps, each of lines by the forms that are due at its place
pub steps_passed : {X : Type 0} (circuit : Circuit) (scale : Scale) (more : List LineForm)
    → (Has : ℕ → Left → X → Type 0) (count : ℕ) (due : ℕ → List LineForm) → (forms :
    (place rest : ℕ)
    → List LineForm) → ((place rest : ℕ) → forms place (suc rest) ≡ due place ++ forms
    (place + 1) rest)
    → ((place : ℕ) → forms place 0 ≡ [])
    → ((place : ℕ) (suffix : List LineForm) (between : Left) (value : X)
    → place < count → Has place between value → IsSound circuit scale (due place ++ suffix) between
    → Passed circuit scale suffix (Has (place + 1)))
    → (rest place : ℕ) → place + rest ≡ count → (between : Left)
    (value : X) → Has place between value → IsSound circuit scale (forms place rest ++ more) between
    → Passed circuit scale more (Has count)
steps_passed circuit scale more Has count due forms begins ends next zero place last between value
    has sound = search arith
steps_passed circuit scale more Has count due forms begins ends next (suc rest) place last between
    value has sound =
    let step = next place (forms (place + 1) rest ++ more) between value (omega (arith, last)) has
    (subst (λ fs. IsSound circuit scale fs between) (append_assoc (due place)
    (forms (place + 1) rest) more)
    (subst (λ fs. IsSound circuit scale (fs ++ more) between) (begins place rest) sound)) in
    steps_passed circuit scale more Has count due forms begins ends next rest (place + 1)
    (omega (arith, last)) step.new step.value step.has step.rest

-- a line without a flaw is that of a row
abbrev pub IsFound : {X : Type 0} (circuit : Circuit) (scale : Scale) (due : ℕ → LineForm)
    (Says : ℕ → Words → X → Type 0) (first count : ℕ) → Type 0
IsFound {X} circuit scale due Says first count = (number : ℕ) (words : Words)
    → number < first + count → 0 < length words → IsFlawless circuit scale (due number) words
    → (row : X) × Says number words row

module _ (circuit : Circuit) (scale : Scale) where
  -- ---- lines of one form

  rows_passed : {X : Type 0} (due : ℕ → LineForm) (Says : ℕ → Words → X → Type 0) (first count : ℕ)
      → (more : List LineForm) (old : Left) → IsFound circuit scale due Says first count
      → IsSound circuit scale (map due (range_with_len first count) ++ more) old
      → Passed circuit scale more (HasRows circuit scale due Says first count old)
  rows_passed {X} due Says first count more old found sound = steps_passed _ _ more
      (λ place. HasRows circuit scale due Says first place old) count (λ place. due (first + place)
      ∷ []) (λ place rest. map due (range_with_len (first + place) rest)) (λ place rest. ap
      (λ start. due (first + place) ∷ map due (range_with_len start rest)) (omega arith))
      (λ place. refl) next count 0 (omega arith) old [] (no_rows due Says first)
      (subst (λ start. IsSound circuit scale (map due (range_with_len start count) ++ more) old)
      (omega arith) sound)
    where
      next : (place : ℕ) (suffix : List LineForm) (between : Left) (value : List X) → place < count
          → HasRows circuit scale due Says first place old between value
          → IsSound circuit scale (due (first + place) ∷ suffix) between
          → Passed circuit scale suffix (HasRows circuit scale due Says first (place + 1) old)
      next place suffix between value within has sound =
          let line = denoted_passed circuit _ _ _ _ _ (λ words. found (first + place) words
          (omega (arith, within))) sound in
          record {
            new = line.new;
            value = value ++ line.value ∷ [];
            has = rows_next due Says _ has _ _ _ line.has refl;
            rest = line.rest;
          }

  pub cycle_passed : (count : ℕ) (more : List LineForm) (old : Left)
      → IsSound circuit scale (cycle_forms version.First count ++ more) old
      → Passed circuit scale more (HasRows circuit scale (λ number. form.Constraint)
      (λ number. DenotesConstraint circuit) 0 count old)
  cycle_passed count more old sound = rows_passed _ _ 0 _ more old (λ number words within
      some. constraint_found circuit scale words) (subst (λ forms. IsSound circuit scale
      (forms ++ more) old) (sym (one_form form.Constraint 0 count)) sound)

  pub pathed_passed : (count : ℕ) (more : List LineForm) (old : Left)
      → IsSound circuit scale (cycle_forms version.Second count ++ more) old
      → Passed circuit scale more (HasPathed circuit scale count old)
  pathed_passed count more old sound = steps_passed circuit scale more
      (λ place. HasPathed circuit scale place old) count (λ place. form.Constraint ∷ form.Path ∷ [])
      (λ place rest. cycle_forms version.Second rest) (λ place rest. refl) (λ place. refl) next
      count 0 (omega arith) old ([], [])
      (search (arith, read_none circuit scale old)) sound
    where
      next : (place : ℕ) (suffix : List LineForm) (between : Left)
          (value : List Constraint × List (List ℕ)) → place < count
          → HasPathed circuit scale place old between value
          → IsSound circuit scale (form.Constraint ∷ form.Path ∷ suffix) between
          → Passed circuit scale suffix (HasPathed circuit scale (place + 1) old)
      next place suffix between value within has sound =
          let line = denoted_passed circuit scale form.Constraint (form.Path ∷ suffix)
          (DenotesConstraint circuit) between
          (λ words some. constraint_found circuit scale words) sound in
          let way = denoted_passed circuit scale form.Path suffix
          (DenotesPath circuit) line.new
          (λ words some flawless. path_found circuit scale words flawless) line.rest in
          record {
            new = way.new;
            value = (value.0 ++ line.value ∷ [], value.1 ++ way.value ∷ []);
            has = pathed_next line.new value _ line.value way.value has line.has way.has refl refl;
            rest = way.rest;
          }

  -- ---- the sections

  -- so many lines after how many they are
  counted_passed : {X : Type 0} (keyword : List ℕ) (due : ℕ → LineForm)
      (Says : ℕ → Words → X → Type 0) (first count : ℕ) (more : List LineForm) → count < 10 ^ 37
      → IsFound circuit scale due Says first count → (old : Left) → IsSound circuit scale
      ((form.Count keyword count ∷ map due (range_with_len first count)) ++ more) old
      → Passed circuit scale more (Counted circuit scale keyword due Says first count old)
  counted_passed keyword due Says first count more few found old sound =
      let line = denoted_passed _ _ _ _ (λ words (denoted : ℕ). words ≡ count_line keyword count)
      old (λ words some flawless. (
        0,
        count_found circuit scale keyword count words few flawless,
      )) sound in
      let rows = rows_passed due Says first count more line.new found line.rest in
      record {
        new = rows.new;
        value = rows.value;
        has = record {
          between = line.new;
          counted = subst (λ words. ReadsLine circuit scale (form.Count keyword count) words old
              line.new) line.has.denoted line.has.line;
          has = rows.has;
        };
        rest = rows.rest;
      }

  leads_passed : (version : Version) (count : ℕ) (more : List LineForm) (old : Left)
      → IsSound circuit scale (lead_forms version count ++ more) old
      → Passed circuit scale more (HasRows circuit scale (λ number. form.Lead)
      (λ number. DenotesLead circuit) 0 (count_in version count) old)
  leads_passed version count more old sound = rows_passed _ _ 0 _ more old
      (λ number words within some. lead_found circuit scale words) sound

  pub body_passed : (version : Version) (count : ℕ) (more : List LineForm) (old : Left)
      → IsSmallScale scale → count ≤ 4097
      → IsSound circuit scale (forms_after version count ++ more) old
      → Passed circuit scale more (HasBody circuit scale version count old)
  body_passed version count more old small few sound =
      let last : List LineForm = form.Total ∷ more in
      let apart = subst (λ forms. IsSound circuit scale forms old) (append_assoc
      (register_forms count ++ lead_forms version count ++ merge_forms count ++ form.Source
      ∷ node_forms count) (form.Total ∷ []) more ∙ sections_apart (register_forms count)
      (lead_forms version count) (merge_forms count) (form.Source ∷ node_forms count) last) sound in
      let timings = counted_passed (codes "registers") form.Register (DenotesTimed circuit scale) 0
      count
      (lead_forms version count ++ (merge_forms count ++ (form.Source ∷ node_forms count ++ last)))
      (omega (arith, few)) (λ number words within some. timed_found circuit scale number words
      small) old apart in
      let leads = leads_passed version count
      (merge_forms count ++ (form.Source ∷ node_forms count ++ last)) timings.new timings.rest in
      let merged = counted_passed (codes "merges") form.Merge (SaysMerge circuit scale.grid) count
      (count - 1) (form.Source ∷ node_forms count ++ last) (omega (arith, few))
      (λ number words within some. merge_found circuit scale number words small
      (omega (arith, few, within))) leads.new leads.rest in
      let source = denoted_passed circuit scale form.Source (node_forms count ++ last)
      (SaysSource circuit scale.grid) merged.new
      (λ words there. source_found circuit scale words small) merged.rest in
      let placed = counted_passed (codes "nodes") form.Node (SaysNode scale.grid) 0 (2 * count - 1)
      last
      (omega (arith, few)) (λ number words within some. node_found circuit scale number words small
      (omega (arith, few, within)) some) source.new source.rest in
      let total = denoted_passed circuit scale form.Total more
      (λ words (line : TotalLine). (words ≡ wire_line scale.grid line.length)
      × IsBelow (10 ^ 36) line.length) placed.new
      (λ words there flawless.
      let (length, says) = total_found circuit scale words small flawless in
      (record { length = length }, says)) placed.rest in
      record {
        new = total.new;
        value = record {
          timings = timings.value;
          leads = leads.value;
          merged = merged.value;
          source = source.value;
          placed = placed.value;
          total = total.value;
        };
        has = record {
          after_registers = timings.new;
          after_leads = leads.new;
          after_merges = merged.new;
          after_source = source.new;
          after_nodes = placed.new;
          timings = timings.has;
          leads = leads.has;
          merged = merged.has;
          source = source.has;
          placed = placed.has;
          total = total.has;
        };
        rest = total.rest;
      }

-- the heading
heading_passed : (circuit : Circuit) (scale : Scale) (more : List LineForm) (old : Left)
    → IsSound circuit scale (form.Version ∷ form.Period ∷ form.Show ∷ [] ++ more) old
    → Passed circuit scale more (HasHeading circuit old)
heading_passed circuit scale more old sound =
    let version = denoted_passed _ _ _ (form.Period ∷ form.Show ∷ more)
    _ _ (λ words some. version_found circuit scale words) sound in
    let period = denoted_passed _ _ _ (form.Show ∷ more) _ _ (λ words some flawless.
    period_found circuit scale _ flawless) version.rest in
    let show = denoted_passed _ _ _ _ _ _ (λ words some flawless.
    show_found circuit scale _ flawless) period.rest in
    record {
      new = show.new;
      value = record {
        version = version.value;
        period = period.value;
        count = show.value;
      };
      has = heading_read _ _ _ _ _ _ _ _ _ version.has period.has show.has;
      rest = show.rest;
    }

-- what shows the period
shown_passed : (circuit : Circuit) (scale : Scale) (version : Version) (count : Option ℕ)
    → (more : List LineForm) (old : Left) → IsSmallCount count
    → IsSound circuit scale (cycle_forms version (unwrap_or count 0) ++ more) old
    → Passed circuit scale more (HasShown circuit scale version count old)
shown_passed circuit scale First None more old small sound = record {
  new = old;
  value = record { shown = Floor; paths = [] };
  has = search (arith, read_none circuit scale old);
  rest = sound;
}
shown_passed circuit scale Second None more old small sound = record {
  new = old;
  value = record { shown = Floor; paths = [] };
  has = search (arith, read_none circuit scale old);
  rest = sound;
}
shown_passed circuit scale First (Some count) more old small sound =
    let cycle = cycle_passed circuit scale count more old sound in
    record {
      new = cycle.new;
      value = record { shown = Cycle cycle.value; paths = [] };
      has = cycle_shown cycle.value small cycle.has;
      rest = cycle.rest;
    }
shown_passed circuit scale Second (Some count) more old small sound =
    let pathed = pathed_passed circuit scale count more old sound in
    record {
      new = pathed.new;
      value = record { shown = Cycle pathed.value.0; paths = pathed.value.1 };
      has = pathed_shown pathed.value small pathed.has;
      rest = pathed.rest;
    }

-- after the heading the forms are those that it denotes
forms_given : {circuit : Circuit} {text : List ℕ} {new : Left} {heading : Heading}
    → HasHeading circuit (whole text) new heading
    → (tech : Tech) → IsSound circuit (scale_denoted tech text)
    (cycle_forms (version_denoted text) (cycle_denoted text) ++ forms_after (version_denoted text)
    (length circuit.registers)) new → IsSound circuit (scale_in tech heading.period)
    (cycle_forms heading.version (unwrap_or heading.count 0)
    ++ forms_after heading.version (length circuit.registers)) new
forms_given {circuit} {text} {new} {heading} has tech =
    subst (λ (given : Scale × Version × ℕ). IsSound circuit given.0 (cycle_forms given.1 given.2
    ++ forms_after given.1 (length circuit.registers)) new) (forms_denoted text _ _
    (has.lines (record { den = pos 1; grid = pos 1 })).words has.small has.count tech)

-- where nothing more is to follow, nothing is left
nothing_left : (circuit : Circuit) (scale : Scale) (left : Left) → IsSound circuit scale [] left
    → left.text ≡ []
nothing_left circuit scale left sound = at left.text sound
  where
    at : (text : List ℕ)
        → None ≡ (if length text == 0 then None else Some (Extra left.line)) → text ≡ []
    at [] is = refl
    at (byte ∷ text) is = search (arith, ne_eqb, none-some)

-- all lines
parts_passed : (circuit : Circuit) (tech : Tech) (text : List ℕ) → HasFault circuit tech text None
    → (parts : Parts) × HasParts circuit tech text parts
parts_passed circuit tech text sound =
    let registers = length circuit.registers in
    let few = few_registers circuit in
    let heading = heading_passed circuit (scale_denoted tech text)
    (cycle_forms (version_denoted text) (cycle_denoted text)
    ++ forms_after (version_denoted text) registers) (whole text) sound in
    let scale = scale_in tech heading.value.period in
    let suffix : List LineForm = forms_after heading.value.version registers in
    let shown = shown_passed circuit scale heading.value.version heading.value.count suffix
    heading.new heading.has.count (forms_given heading.has tech heading.rest) in
    let body = body_passed circuit scale heading.value.version registers [] shown.new
    (scale_small tech heading.value.period heading.has.small) few
    (subst (λ forms. IsSound circuit scale forms shown.new) (sym (append-nil suffix))
    shown.rest) in (
      record { heading = heading.value; shown = shown.value; body = body.value },
      record {
        after_heading = heading.new;
        after_shown = shown.new;
        end = body.new;
        heading = heading.has;
        shown = shown.has;
        body = body.has;
        ended = nothing_left circuit scale body.new body.rest;
      },
    )

-- so it spells the report that they make
pub report_spelled : (circuit : Circuit) (tech : Tech) (text : List ℕ)
    → HasFault circuit tech text None → (report : Report) × Spells circuit tech text report
report_spelled circuit tech text sound =
    let (parts, has) = parts_passed circuit tech text sound in
    (report_denoted tech parts, parts_spelled has)

-- a text has a first fault by forms, or has none
forms_judged : (circuit : Circuit) (scale : Scale) (forms : List LineForm) (line : ℕ) →
    (text : List ℕ)
    → (fault : Option ReportFault) × HasFirstFault circuit scale forms line text fault
forms_judged circuit scale [] line text = (_, refl)
forms_judged circuit scale (due ∷ more) line text =
    at (length text == 0) (position is_line_feed text)
    (λ end. forms_judged circuit scale more (line + 1) (drop (end + 1) text))
  where
    Later : (end : ℕ) → Option ReportFault → Type 0
    Later end fault = HasFirstFault circuit scale more (line + 1) (drop (end + 1) text) fault

    by : (end : ℕ) → ((fault : Option ReportFault) × Later end fault) → (flaw : Option Flaw)
        → LineHasFlaw circuit (fields_of circuit scale due (spaced_words (take end text)))
        (spaced_words (take end text)) flaw
        → (fault : Option ReportFault) × IsJudged circuit scale due more line text fault end
    by end later None has = (later.0, (None, has, later.1))
    by end later (Some flaw) has = (Some (flaw_fault due line flaw), (Some flaw, has, refl))

    at : (none : Bool) (end : Option ℕ)
        → ((end : ℕ) → (fault : Option ReportFault) × Later end fault)
        → (fault : Option ReportFault) × IsFaultAt circuit scale due more line text fault none end
    at true end later = (Some (Missing line), refl)
    at false None later = (Some (BadLine line), refl)
    at false (Some end) later =
        let words : Words = spaced_words (take end text) in
        let (flaw, has) = line_judged circuit (fields_of circuit scale due words) words in
        by end (later end) flaw has

-- so a text has a fault or spells a report
pub fault_or_report : (circuit : Circuit) (tech : Tech) (text : List ℕ)
    → HasFaultOrReport circuit tech text
fault_or_report circuit tech text =
    let (fault, has) = forms_judged circuit (scale_denoted tech text)
    (forms_of (version_denoted text) (cycle_denoted text) (length circuit.registers)) 1 text in
    at fault has
  where
    at : (fault : Option ReportFault) → HasFault circuit tech text fault
        → HasFaultOrReport circuit tech text
    at None has = inr (report_spelled circuit tech text has)
    at (Some fault) has = inl (fault, has)
