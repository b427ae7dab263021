-- The text of each command for a circuit and its delays is one of counted lines, and its status
-- says whether a period is admitted.
use Rattle.answer_texts.proofs.Vocabulary.{◌≡◌, ◌<◌, ◌≤◌, inl, inr, ℕ, zero, suc, ℤ, true, List, [], ◌∷◌, ◌++◌, length, map, nat_abs, refl, ap, sym, subst, append-nil, arith, pos, ints, length-map, length-replicate, All-weaker, Fraction, Circuit, Constraint, PeriodShow, Problem, First, Second, Tech, Topology, IsBetweenRegisters, report_lines, Words, text_of, show_lines, IsCycle, HasNoPeriod, IsForbidding, IsLeastFraction, tails_within, CornersOutcome, AreOfCorners, IsCommonShow, Form, MarginOutcome, IsMarginOutcome, wire_line, report_lines_are, all_at_zero, cornered_line_at, cornered_lines, common_show_lines, corners_lines, IsCornersText, summary_lines, IsSummaryText, IsDemoText, IsTreeText, IsSynthesisText, IsEmbeddingText, margin_lines, IsMarginText, never_lines, found_lines, IsLeastText, IsPeriodText, register_lines, IsScheduledText, IsScheduleText, IsCheckable, IsNeverText, IsFoundOrNever, IsSynthText, IsEmbedText, zero_lines, IsZeroText}
use Rattle.cts_model.specs.declared.period.PeriodShow.TheVariants as shows
use Rattle.answer_texts.specs.Types.{Point}
use Rattle.cts_model.specs.Vocabulary.{IsWithinBounds, grid_of}
use Rattle.cts_model.proofs.CircuitConstraints.{forbidding_at_all}
use Rattle.cts_model.proofs.ScaleLemmas.{size_same}
use Rattle.corners.specs.declared.outcome.CornersOutcome.TheVariants as outcomes
use Rattle.corners.specs.CommonPeriods.{HasNoCommonPeriod, IsLeastCommonPeriod}
use Rattle.corners.proofs.OutcomeLemmas.{none_where_forbidden}
use Rattle.command_line.specs.declared.table.Form.TheVariants as forms
use Rattle.move_session.specs.declared.moves.Move.{Move}
use Rattle.outcomes.specs.declared.margin.MarginOutcome.TheVariants as margins
use Rattle.outcomes.proofs.JoiningCycles.{cycle_joins}
use Rattle.answer_texts.specs.CheckTexts.{shown_line}
use Rattle.answer_texts.specs.MoveTexts.{AreWires, IsWiresText, IsMovesText, IsWireAt, moved_places}
use Rattle.answer_texts.proofs.CornerRegisters.{corners_among}
use Rattle.answer_texts.proofs.CountedLines.{AreCounted, counted_none, counted_section, counted_line, counted_alone}
use Rattle.answer_texts.proofs.CountedTexts.{looks_for_period, SaysOfPeriods, plan_of, plan_with, IsCounted, counted_looking, IsTextWith, IsTextOf}
use Rattle.answer_texts.proofs.LineCounts.{report_plan, counted_registers, counted_show, counted_never, counted_report, few_constraints, counted_arrivals, counted_below, counted_cycle}
use Rattle.answer_texts.proofs.TextLines.{zero_lines_are, found_lines_are, scheduled_lines_are, never_lines_are, summary_lines_are, wire_lines_are, margin_lines_are, corners_lines_are}

-- where a text has one status it has any other that is the same
with_status : {form : Form} {None : Type 0} {circuit : Circuit} {status other : ℕ} {text : List ℕ}
    → status ≡ other → IsTextOf form None circuit other text
    → IsTextOf form None circuit status text
with_status {form} {None} {circuit} {text = text} same is =
    subst (λ s. IsTextOf form None circuit s text) (sym same) is

module _ (circuit : Circuit) (tech : Tech) where
  -- ---- of commands that look for no period

  -- the least period at equal arrivals
  pub zero_text : (None : Type 0) (status : ℕ) (text : List ℕ) → status ≡ 0
      → IsZeroText circuit tech text → IsTextOf forms.Zero None circuit status text
  zero_text None status text done says = with_status done (record {
    lines = zero_lines circuit tech says.outcome;
    each = zero_lines_are circuit tech says.outcome;
    some = omega arith;
    counted = counted_alone (zero_lines circuit tech says.outcome);
    says = refl;
    spelled = says.spelled;
  })

  -- a report that is shown
  pub check_text : (None : Type 0) (status : ℕ) (text : List ℕ) → status ≡ 0
      → text ≡ text_of (shown_line ∷ []) → IsTextOf forms.Check None circuit status text
  check_text None status text done spelled = with_status done (record {
    lines = shown_line ∷ [];
    each = search arith;
    some = omega arith;
    counted = counted_alone (shown_line ∷ []);
    says = refl;
    spelled = spelled;
  })

  -- what is spared at a period, of which a cycle is named where there is a path
  counted_margin : (period : Fraction) (outcome : MarginOutcome)
      → IsMarginOutcome circuit tech period outcome
      → IsCounted 0 forms.Margin 0 circuit (margin_lines circuit period outcome)
  counted_margin period (margins.Found value cycle schedule) found = inr (
    (λ none. cycle_joins circuit tech cycle found.of_circuit found.shows.is_cycle none),
    counted_line (counted_line (counted_cycle circuit cycle
        (few_constraints circuit cycle (tails_within circuit tech cycle found.of_circuit)
        found.shows.is_cycle)
        (counted_arrivals circuit schedule found.spared.registers_are))),
  )
  counted_margin period margins.Unbounded none = inl (
    none,
    counted_line (counted_line (counted_arrivals circuit (all_at_zero (length circuit.registers))
        (length-replicate (length circuit.registers) (pos 0)))),
  )

  pub margin_text : (None : Type 0) (word : List ℕ) (status : ℕ) (text : List ℕ) → status ≡ 0
      → IsMarginText circuit tech word text → IsTextOf forms.Margin None circuit status text
  margin_text None word status text done says = with_status done (record {
    lines = margin_lines circuit says.period says.outcome;
    each = margin_lines_are circuit says.period says.outcome;
    some = omega arith;
    counted = counted_margin says.period says.outcome says.greatest;
    says = refl;
    spelled = says.spelled;
  })

  -- ---- of commands that do

  -- where there is a least period, one is admitted
  found_says : (form : Form) → looks_for_period form ≡ true → (period : Fraction)
      → IsLeastFraction circuit tech period
      → SaysOfPeriods (looks_for_period form) (HasNoPeriod circuit tech) 0
  found_says form looks period least =
      subst (λ l. SaysOfPeriods l (HasNoPeriod circuit tech) 0) (sym looks)
      (inl (refl, λ none. none _ _ least.proper least.admitted))

  -- a cycle that forbids every period, whatever the command
  never_text : (moves : ℕ) (form : Form) → looks_for_period form ≡ true
      → (cycle : List Constraint) → IsForbidding circuit tech cycle → (text : List ℕ)
      → text ≡ text_of (never_lines circuit cycle)
      → IsTextWith moves form (HasNoPeriod circuit tech) circuit 1 text
  never_text moves form looks cycle never text spelled = record {
    lines = never_lines circuit cycle;
    each = never_lines_are circuit cycle;
    some = omega arith;
    counted = counted_looking moves form 1 circuit (never_lines circuit cycle) looks
        (counted_never circuit tech cycle never);
    says = subst (λ l. SaysOfPeriods l (HasNoPeriod circuit tech) 1) (sym looks)
        (inr (refl, forbidding_at_all circuit tech cycle never));
    spelled = spelled;
  }

  -- what is found with status 0, or a cycle that forbids every period
  pub found_or_never : (moves : ℕ) (form : Form) → looks_for_period form ≡ true
      → (Found : List ℕ → Type 0)
      → ((text : List ℕ) → Found text
      → IsTextWith moves form (HasNoPeriod circuit tech) circuit 0 text)
      → (status : ℕ) (text : List ℕ)
      → IsFoundOrNever Found (IsNeverText circuit tech) status text
      → IsTextWith moves form (HasNoPeriod circuit tech) circuit status text
  found_or_never moves form looks Found found zero text says = found text says
  found_or_never moves form looks Found found (suc zero) text says =
      never_text moves form looks says.cycle says.forbids text says.spelled
  found_or_never moves form looks Found found (suc (suc more)) text says = absurd says

  -- the least period that any arrivals allow
  pub period_text : (status : ℕ) (text : List ℕ) → IsPeriodText circuit tech status text
      → IsTextOf forms.Period (HasNoPeriod circuit tech) circuit status text
  period_text = found_or_never 0 forms.Period refl (IsLeastText circuit tech) (λ text says. record {
    lines = found_lines circuit says.zero says.period says.shown;
    each = found_lines_are circuit tech says.zero says.period says.shown;
    some = omega arith;
    counted = counted_line (counted_line
        (subst (AreCounted (1 ∷ [])) (append-nil (show_lines circuit says.shown))
        (counted_show circuit tech First says.period says.shown [] says.found.shown counted_none)));
    says = found_says forms.Period refl says.period says.found.least;
    spelled = says.spelled;
  })

  -- the least schedule at that period
  pub schedule_text : (status : ℕ) (text : List ℕ) → IsScheduleText circuit tech status text
      → IsTextOf forms.Schedule (HasNoPeriod circuit tech) circuit status text
  schedule_text = found_or_never 0 forms.Schedule refl (IsScheduledText circuit tech)
      (λ text says. record {
        lines = found_lines circuit says.zero says.period says.shown
            ++ register_lines circuit says.schedule says.slacks;
        each = scheduled_lines_are circuit tech says.zero says.period says.shown says.schedule
            says.slacks;
        some = omega arith;
        counted = counted_line (counted_line
            (counted_show circuit tech First says.period says.shown [] says.found.found.shown
            (counted_registers circuit says.schedule says.slacks says.found.least.registers)));
        says = found_says forms.Schedule refl says.period says.found.found.least;
        spelled = says.spelled;
      })

-- ---- of a problem

module _ (problem : Problem) where
  -- what this holds of is the text of a command of this form
  abbrev IsProblemText : (moves : ℕ) → Form → (status : ℕ) → List ℕ → Type 0
  IsProblemText moves form status text =
      IsTextWith moves form (HasNoPeriod problem.circuit problem.tech) problem.circuit status text

  -- the report of a clock tree
  tree_text : (form : Form) → looks_for_period form ≡ true → plan_of 0 form ≡ report_plan Second
      → (text : List ℕ) → IsTreeText problem text → IsProblemText 0 form 0 text
  tree_text form looks plan text says =
      let lines = report_lines problem.circuit says.report in
      record {
        lines = lines;
        each = report_lines_are problem.circuit says.report;
        some = omega arith;
        counted = counted_looking 0 form 0 problem.circuit lines looks
            (subst (λ p. AreCounted p lines) (sym plan)
            (subst (λ version. AreCounted (report_plan version) lines) says.version
            (counted_report problem.circuit says.report says.size problem.tech
            says.shows.shown)));
        says = found_says problem.circuit problem.tech form looks says.report.period
            says.is.least_period;
        spelled = says.lines;
      }

  -- by its own topology
  pub synth_text : (status : ℕ) (text : List ℕ) → IsSynthText problem status text
      → IsProblemText 0 forms.Synth status text
  synth_text = found_or_never problem.circuit problem.tech 0 forms.Synth refl
      (λ text. (is : IsSynthesisText problem text) × IsCheckable problem is.tree.report)
      (λ text says. tree_text forms.Synth refl refl text says.0.tree)

  -- or by one that is given
  pub embed_text : (topology : Topology) (status : ℕ) (text : List ℕ)
      → IsEmbedText problem topology status text → IsProblemText 0 forms.Embed status text
  embed_text topology = found_or_never problem.circuit problem.tech 0 forms.Embed refl
      (λ text. (is : IsEmbeddingText problem topology text)
      × IsCheckable problem is.tree.report)
      (λ text says. tree_text forms.Embed refl refl text says.0.tree)

  -- there is a wire for the places as they are, and one for each move
  length-wires : (IsWireFor : List Point → ℤ → Type 0) (places : List Point) (moves : List Move)
      (wires : List ℤ) → AreWires IsWireFor places moves wires → length wires ≡ suc (length moves)
  length-wires IsWireFor places [] [] each = absurd each
  length-wires IsWireFor places [] (wire ∷ []) each = refl
  length-wires IsWireFor places [] (wire ∷ more ∷ wires) each = absurd each
  length-wires IsWireFor places (move ∷ moves) [] each = absurd each
  length-wires IsWireFor places (move ∷ moves) (wire ∷ wires) each =
      ap suc (length-wires IsWireFor (moved_places places move) moves wires each.1)

  -- so many lines of wire are counted one by one
  counted_wires : (grid : ℤ) (moves : ℕ) (wires : List ℤ) → length wires ≡ suc moves
      → AreCounted (plan_with moves 0 forms.Moves) (map (wire_line grid) wires)
  counted_wires grid moves [] same = absurd (omega (arith, same))
  counted_wires grid zero (wire ∷ []) same = counted_alone (wire_line grid wire ∷ [])
  counted_wires grid zero (wire ∷ more ∷ wires) same = absurd (omega (arith, same))
  counted_wires grid (suc moves) (wire ∷ wires) same =
      counted_line (counted_wires grid moves wires (omega (arith, same)))

  -- how long it is after each move
  wires_text : (moves : List Move) (text : List ℕ) → IsWiresText problem moves text
      → IsProblemText (length moves) forms.Moves 0 text
  wires_text moves text says =
      let grid = grid_of says.period problem.tech in
      let as_many = length-wires (IsWireAt problem says.period says.schedule says.merges)
      problem.places.registers moves says.wires says.each in
      record {
        lines = map (wire_line grid) says.wires;
        each = wire_lines_are problem.circuit grid says.wires;
        some = omega (arith, as_many, length-map says.wires (wire_line grid));
        counted = counted_wires grid (length moves) says.wires as_many;
        says = found_says problem.circuit problem.tech forms.Moves refl says.period
            says.least_period;
        spelled = says.spelled;
      }

  pub moves_text : (moves : List Move) (status : ℕ) (text : List ℕ)
      → IsMovesText problem moves status text → IsProblemText (length moves) forms.Moves status text
  moves_text moves = found_or_never problem.circuit problem.tech (length moves) forms.Moves refl
      (IsWiresText problem moves) (wires_text moves)

  -- the summary of one
  summary_text : (registers : ℕ) (text : List ℕ) → IsSummaryText registers problem text
      → IsProblemText 0 forms.Demo 0 text
  summary_text registers text says =
      let report = says.tree.tree.report in
      record {
        lines = summary_lines registers report;
        each = summary_lines_are problem.circuit registers report;
        some = omega arith;
        counted = counted_alone (summary_lines registers report);
        says = found_says problem.circuit problem.tech forms.Demo refl report.period
            says.tree.tree.is.least_period;
        spelled = says.spelled;
      }

  pub demo_text : (registers status : ℕ) (text : List ℕ)
      → IsDemoText registers problem status text → IsProblemText 0 forms.Demo status text
  demo_text registers = found_or_never problem.circuit problem.tech 0 forms.Demo refl
      (IsSummaryText registers problem) (summary_text registers)

-- ---- of several corners

module _ (circuit : Circuit) (techs : List Tech) where
  -- a cycle of corners' constraints has few
  few_of_corners : (cycle : List Constraint) (corners : List ℕ)
      → AreOfCorners circuit techs cycle corners → IsCycle cycle → length cycle ≤ 9999
  few_of_corners cycle corners of_corners is_cycle =
      let few = few_constraints circuit cycle
      (All-weaker (IsBetweenRegisters (length circuit.registers))
      (λ constraint. constraint.tail < length circuit.registers) (λ constraint is. is.tail) cycle
      (corners_among circuit techs cycle corners of_corners)) is_cycle in omega (arith, few)

  -- what shows a period, before the arrivals
  counted_shown : {rest : List Words} (period : Fraction) (shown : PeriodShow)
      (corners : List ℕ) → IsCommonShow circuit techs period shown corners
      → AreCounted (1 ∷ []) rest
      → AreCounted (1 ∷ 1 ∷ []) (common_show_lines circuit shown corners ++ rest)
  counted_shown period (shows.Cycle cycle) corners shown counted =
      counted_below (cornered_line_at circuit cycle corners) (length cycle)
      (few_of_corners cycle corners shown.of_corners shown.shows.is_cycle) counted
  counted_shown period shows.Floor corners shown counted = counted_section [] refl counted

  -- where there is a least period, one is admitted
  admits : (period : Fraction) → IsLeastCommonPeriod circuit techs period
      → HasNoCommonPeriod circuit techs → ⊥
  admits period least none = none (nat_abs period.den) period.num
      (let some = period.lowest.some_den in
      let same = size_same period.den (omega (arith, ints, some)) in
      omega (arith, ints, some, same)) least.common

  -- the least schedule that serves them, or a cycle that forbids every period
  pub corners_text : (status : ℕ) (text : List ℕ) → IsCornersText circuit techs status text
      → IsTextOf forms.Corners (HasNoCommonPeriod circuit techs) circuit status text
  corners_text zero text says = record {
    lines = corners_lines circuit
        (outcomes.Found says.period says.shown says.corners says.schedule);
    each = corners_lines_are circuit
        (outcomes.Found says.period says.shown says.corners says.schedule);
    some = omega arith;
    counted = counted_line (counted_shown says.period says.shown says.corners says.found.shown
        (counted_arrivals circuit says.schedule says.found.arrivals.registers));
    says = inl (refl, admits says.period says.found.least);
    spelled = says.spelled;
  }
  corners_text (suc zero) text says = record {
    lines = corners_lines circuit (outcomes.Never says.cycle says.corners);
    each = corners_lines_are circuit (outcomes.Never says.cycle says.corners);
    some = omega arith;
    counted = counted_line (subst (AreCounted (1 ∷ []))
        (append-nil (cornered_lines circuit says.cycle says.corners))
        (counted_below (cornered_line_at circuit says.cycle says.corners) (length says.cycle)
        (few_of_corners says.cycle says.corners says.forbids.of_corners
        says.forbids.forbids.is_cycle) counted_none));
    says = inr (refl, none_where_forbidden circuit techs says.cycle says.corners says.forbids);
    spelled = says.spelled;
  }
  corners_text (suc (suc more)) text says = absurd says
