-- The first lines of a report, what shows its period, and the sections after it.
use Rattle.report_text.proofs.Vocabulary.{period_line, IsSmallPeriod, ◌≡◌, ℕ, Option, Some, List, [], ◌∷◌, codes, map, refl, ap, ◌∙◌, subst, arith, append_assoc, ◌≤◌, ◌+◌, ◌-◌, ◌*◌, ◌++◌, append-nil, range_with_len, Circuit, Constraint, Cycle, Version, First, Second, Words, count_line, line_for, Lead, ReportFault, LineForm, Scale, Fraction, HasHeading, HasShown, IsSmallCount, HasPathed, HasRows, Counted, IsFlawless, DenotesConstraint, DenotesLead, Left, Reads, ReadsLine, Stops, DenotesLine, DenotesTimed, Timed, HasBody, forms_after, HasFirstFault, version_line, period_shown_line}
use Rattle.report_text.specs.LineForms as form
use Rattle.report_text.specs.declared.sections.Body.{Body}
use Rattle.report_text.proofs.RowLemmas.{one_form, rows_number, plain_lines, rows_all, rows_lines, counted_number, counted_read}
use Rattle.report_text.proofs.WalkLemmas.{read_more, stop_after, stop_before}

-- a line that is read by another scale
pub read_as : (circuit : Circuit) (scale other : Scale) (form : LineForm) (words line : Words)
    (old new : Left) → ReadsLine circuit scale form words old new
    → IsFlawless circuit other form words → words ≡ line
    → Reads circuit other (form ∷ []) (line ∷ []) old new
read_as circuit scale other form words line old new read flawless is = search arith

-- the three lines
pub heading_read : (circuit : Circuit) (scale : Scale)
    (old first second new : Left) (version : Version) (period : Fraction) (count : Option ℕ)
    → DenotesLine circuit scale form.Version (λ words version. words ≡ version_line version) old
    first version
    → DenotesLine circuit scale form.Period
    (λ words period. (words ≡ period_line period) × IsSmallPeriod period) first second period
    → DenotesLine circuit scale form.Show
    (λ words count. (words ≡ period_shown_line count) × IsSmallCount count) second new count →
    HasHeading circuit old new
    (record { version = version; period = period; count = count })
heading_read circuit scale old first second new version period count is_version is_period is_show =
    record {
      lines = λ other. read_more (read_as _ _ _ _ _ _ old _ is_version.line is_version.line.flawless
          is_version.denoted) _ _ new (read_more (read_as _ _ _ _ _ _ _ _ is_period.line
          is_period.line.flawless is_period.denoted.0) _ _ new (read_as _ _ _ _ _ _ _ new
          is_show.line is_show.line.flawless is_show.denoted.0));
      small = is_period.denoted.1;
      count = is_show.denoted.1;
    }

-- the constraints of a cycle show the period
pub cycle_shown : {circuit : Circuit} {scale : Scale} {count : ℕ} {old new : Left}
    (cycle : List Constraint) → IsSmallCount (Some count)
    → HasRows circuit scale (λ number. form.Constraint) (λ number. DenotesConstraint circuit) 0
    count old new cycle → HasShown circuit scale First (Some count) old new
    (record { shown = Cycle cycle; paths = [] })
cycle_shown {circuit} {scale} {count} {old} {new} cycle small has =
    let lines = rows_lines _ _ (λ number words row denoted. denoted.line) 0 _ _ has.each
    ∙ plain_lines (line_for circuit) 0 cycle in
    record {
      lines = subst (λ forms. Reads circuit scale forms (map (line_for circuit) cycle) old new)
          (one_form form.Constraint 0 count) (subst (λ ls. Reads circuit scale
          (map (λ number. form.Constraint) (range_with_len 0 count)) ls old new) lines has.read);
      first = ap (λ n. count_line (codes "cycle") n ∷ map (line_for circuit) cycle) has.many;
      counted = has.many;
      paths = refl;
      among = rows_all _ _ (λ number words row denoted. denoted.registers) 0 _ _ has.each;
      weights = (
        omega (arith, has.many, small.0),
        omega (arith, has.many, small.1),
        rows_all _ _ (λ number words row denoted. denoted.weight) 0 _ _ has.each,
      );
      signals = λ place default within. absurd (omega (arith, within));
      few = λ place default within. absurd (omega (arith, within));
    }

-- and so do those with their paths
pub pathed_shown : {circuit : Circuit} {scale : Scale} {count : ℕ} {old new : Left}
    (pathed : List Constraint × List (List ℕ)) → IsSmallCount (Some count)
    → HasPathed circuit scale count old new pathed
    → HasShown circuit scale Second (Some count) old new
    (record { shown = Cycle pathed.0; paths = pathed.1 })
pathed_shown {circuit} {scale} {count} {old} {new} pathed small has = search arith

-- the forms of three sections, after how many lines each has
abbrev pub register_forms : ℕ → List LineForm
register_forms count = form.Count (codes "registers") count ∷ map form.Register
    (range_with_len 0 count)

abbrev pub merge_forms : ℕ → List LineForm
merge_forms count = form.Count (codes "merges") (count - 1)
    ∷ map form.Merge (range_with_len count (count - 1))

abbrev pub node_forms : ℕ → List LineForm
node_forms count = form.Count (codes "nodes") (2 * count - 1)
    ∷ map form.Node (range_with_len 0 (2 * count - 1))

-- five lists one after the other
pub sections_apart : {X : Type 0} (a b c d e : List X)
    → a ++ b ++ c ++ d ++ e ≡ a ++ (b ++ (c ++ (d ++ e)))
sections_apart a b c d e = simp append_assoc

-- a fault by forms that stand among all, after lines that are read
pub stops_within : {circuit : Circuit} {scale : Scale} {lines : List Words} {old between : Left}
    (all a b more : List LineForm) → (a ++ b) ++ more ≡ all → (fault : ReportFault)
    → Reads circuit scale a lines old between → Stops circuit scale b between fault
    → Stops circuit scale all old fault
stops_within {circuit} {scale} {lines} {old} {between} all a b more same fault read stops =
    search (arith, stop_before, stop_after)

-- before the merges there are at most two lines a register, and one
pub lines_before_merges : {circuit : Circuit} {scale : Scale} {count leads : ℕ}
    {old between new : Left} {timings : List Timed} {told : List Lead}
    → Counted circuit scale (codes "registers") form.Register (DenotesTimed circuit scale) 0 count
    old between timings → HasRows circuit scale (λ number. form.Lead)
    (λ number. DenotesLead circuit) 0 leads between new told → leads ≤ count
    → new.line ≤ old.line + 1 + 2 * count
lines_before_merges {circuit} registers has few =
    let number = rows_number (λ number. form.Lead) (λ number. DenotesLead circuit) 0 has in
    omega (arith, counted_number registers, number, few)

module _ {circuit : Circuit} {scale : Scale} {version : Version} {count : ℕ} {old new : Left}
    {body : Body} (has : HasBody circuit scale version count old new body) where
  -- the lines of all sections
  abbrev pub body_lines : List Words
  body_lines = count_line (codes "registers") count ∷ has.timings.has.lines ++ has.leads.lines
      ++ count_line (codes "merges") (count - 1) ∷ has.merged.has.lines ++ has.source.words
      ∷ count_line (codes "nodes") (2 * count - 1) ∷ has.placed.has.lines ++ has.total.words ∷ []

  pub body_read : Reads circuit scale (forms_after version count) body_lines old new
  body_read =
      let source = has.source.line.read scale has.source.line.flawless in
      let total = has.total.line.read scale has.total.line.flawless in
      read_more (read_more (read_more (read_more (counted_read has.timings) _ _ _ has.leads.read) _
      _ _ (counted_read has.merged)) _ _ _ (read_more source _ _ _ (counted_read has.placed))) _ _
      new total

  -- a fault after all sections
  pub body_ends : (fault : Option ReportFault)
      → HasFirstFault circuit scale [] new.line new.text fault
      → HasFirstFault circuit scale (forms_after version count) old.line old.text fault
  body_ends fault found =
      subst (λ forms. HasFirstFault circuit scale forms old.line old.text fault)
      (append-nil (forms_after version count)) (body_read.faults [] fault found)
