-- The lines of each text are lines, as those of reports are.
use Rattle.answer_texts.proofs.Vocabulary.{ℕ, ℤ, pos, Bool, true, false, List, [], ◌∷◌, ◌++◌, ◌+◌, length, map, slice_index_or, codes, None, arith, range_with_len, Fraction, Circuit, Constraint, PeriodShow, Report, First, Schedule, Slack, Tech, cycle_lines, show_lines, wire_line, IsLine, AreLines, appended, mapped, constraint_is, count_is, shown_are, CornersOutcome, MarginOutcome, all_at_zero, arrival_line, arrival_lines, cornered_line, cornered_line_at, cornered_lines, common_show_lines, corners_lines, summary_lines, margin_lines, found_lines, never_lines, scheduled_line_at, register_lines, zero_lines}
use Rattle.cts_model.specs.declared.period.PeriodShow.TheVariants as shows
use Rattle.answer_texts.specs.Types.{ZeroSkew, Fails, Setup}
use Rattle.cts_model.specs.Vocabulary.{arrival_of}
use Rattle.cts_model.specs.declared.timing.ZeroSkew.TheVariants.{Floor}
use Rattle.report_text.proofs.WordBytes.{number_word, fraction_word, quotient_word, register_word, slack_word}
use Rattle.corners.specs.declared.outcome.CornersOutcome.TheVariants as outcomes
use Rattle.corners.specs.CornerLists.{constraint_at}
use Rattle.outcomes.specs.declared.margin.MarginOutcome.TheVariants as margins

module _ (circuit : Circuit) where
  -- the lines of what shows a period
  show_lines_are : (shown : PeriodShow) → AreLines (show_lines circuit shown)
  show_lines_are shown = shown_are First circuit shown []

  -- those of a schedule with what registers have to spare
  register_lines_are : (schedule : Schedule) (slacks : List Slack)
      → AreLines (register_lines circuit schedule slacks)
  register_lines_are schedule slacks = (
    count_is (codes "registers") (length schedule.at) (search arith),
    mapped IsLine (scheduled_line_at circuit schedule slacks)
        (range_with_len 0 (length schedule.at)) line_is,
  )
    where
      line_is : (register : ℕ) → IsLine (scheduled_line_at circuit schedule slacks register)
      line_is register =
          let slack = slice_index_or slacks register (record { setup = None; hold = None }) in (
            register_word circuit register,
            (
              quotient_word (arrival_of schedule.at register) schedule.den,
              (slack_word slack.setup, (slack_word slack.hold, tt)),
            ),
          )

  -- and those of one alone
  arrival_lines_are : (schedule : Schedule) → AreLines (arrival_lines circuit schedule)
  arrival_lines_are schedule = (
    count_is (codes "registers") (length schedule.at) (search arith),
    mapped IsLine (arrival_line circuit schedule) (range_with_len 0 (length schedule.at))
        (λ register. (
          register_word circuit register,
          (quotient_word (arrival_of schedule.at register) schedule.den, tt),
        )),
  )

  -- those of the least period at equal arrivals
  pub zero_lines_are : (tech : Tech) (zero : ZeroSkew) → AreLines (zero_lines circuit tech zero)
  zero_lines_are tech (Fails pair) = (
    search arith,
    (
      constraint_is circuit
          (record { setup = false; tail = pair.to; head = pair.from; weight = _ }),
      tt,
    ),
  )
  zero_lines_are tech (Floor value) = ((search arith, (number_word value, tt)), search arith)
  zero_lines_are tech (Setup value pair) = (
    (search arith, (number_word value, tt)),
    (
      constraint_is circuit
          (record { setup = true; tail = pair.from; head = pair.to; weight = _ }),
      tt,
    ),
  )

  -- those of a period alone
  pub found_lines_are : (tech : Tech) (zero : ZeroSkew) (period : Fraction) (shown : PeriodShow)
      → AreLines (found_lines circuit zero period shown)
  found_lines_are tech zero period shown = (
    (search arith, (fraction_word period.num period.den, tt)),
    ((zero_lines_are tech zero).0, show_lines_are shown),
  )

  -- and of one with its schedule
  pub scheduled_lines_are : (tech : Tech) (zero : ZeroSkew) (period : Fraction)
      (shown : PeriodShow) (schedule : Schedule) (slacks : List Slack)
      → AreLines (found_lines circuit zero period shown ++ register_lines circuit schedule slacks)
  scheduled_lines_are tech zero period shown schedule slacks =
      appended IsLine (found_lines circuit zero period shown)
      (register_lines circuit schedule slacks) (found_lines_are tech zero period shown)
      (register_lines_are schedule slacks)

  -- those of a cycle that forbids every period
  pub never_lines_are : (cycle : List Constraint) → AreLines (never_lines circuit cycle)
  never_lines_are cycle = (search arith, show_lines_are (shows.Cycle cycle))

  -- the lines of lengths of wire
  pub wire_lines_are : (grid : ℤ) (wires : List ℤ) → AreLines (map (wire_line grid) wires)
  wire_lines_are grid wires = mapped IsLine (wire_line grid) wires
      (λ steps. (search arith, (quotient_word steps grid, tt)))

  -- those of what is spared at a period
  pub margin_lines_are : (period : Fraction) (outcome : MarginOutcome)
      → AreLines (margin_lines circuit period outcome)
  margin_lines_are period (margins.Found value cycle schedule) = (
    (search arith, (fraction_word period.num period.den, tt)),
    (
      (search arith, (fraction_word value.num value.den, tt)),
      appended IsLine (cycle_lines circuit cycle) (arrival_lines circuit schedule)
          (show_lines_are (shows.Cycle cycle)) (arrival_lines_are schedule),
    ),
  )
  margin_lines_are period margins.Unbounded = (
    (search arith, (fraction_word period.num period.den, tt)),
    (search arith, arrival_lines_are (all_at_zero (length circuit.registers))),
  )

  -- and those of the summary of a report
  pub summary_lines_are : (registers : ℕ) (report : Report)
      → AreLines (summary_lines registers report)
  summary_lines_are registers report = (
    (search arith, (number_word (pos registers), tt)),
    (
      (search arith, (fraction_word report.period.num report.period.den, tt)),
      ((search arith, (quotient_word report.total report.grid, tt)), search arith),
    ),
  )

  -- a constraint with the number of its corner
  numbered_is : (setup : Bool) (tail head : ℕ) (weight : ℤ) (number : ℕ)
      → IsLine (cornered_line circuit
      (record { setup = setup; tail = tail; head = head; weight = weight }) number)
  numbered_is true tail head weight number =
      let is = constraint_is circuit
      (record { setup = true; tail = tail; head = head; weight = weight }) in
      (is.0, (is.1.0, (is.1.1.0, (is.1.1.1.0, (number_word (pos number), tt)))))
  numbered_is false tail head weight number =
      let is = constraint_is circuit
      (record { setup = false; tail = tail; head = head; weight = weight }) in
      (is.0, (is.1.0, (is.1.1.0, (is.1.1.1.0, (number_word (pos number), tt)))))

  -- a cycle of such
  numbered_lines_are : (cycle : List Constraint) (corners : List ℕ)
      → AreLines (cornered_lines circuit cycle corners)
  numbered_lines_are cycle corners = (
    (show_lines_are (shows.Cycle cycle)).0,
    mapped IsLine (cornered_line_at circuit cycle corners) (range_with_len 0 (length cycle))
        (λ place.
        let constraint = constraint_at cycle place in
        numbered_is constraint.setup constraint.tail constraint.head constraint.weight
        (slice_index_or corners place 0 + 1)),
  )

  -- what shows the period of several corners
  common_show_lines_are : (shown : PeriodShow) (corners : List ℕ)
      → AreLines (common_show_lines circuit shown corners)
  common_show_lines_are (shows.Cycle cycle) corners = numbered_lines_are cycle corners
  common_show_lines_are shows.Floor corners = show_lines_are shows.Floor

  -- the lines of the outcome of several corners
  pub corners_lines_are : (outcome : CornersOutcome) → AreLines (corners_lines circuit outcome)
  corners_lines_are (outcomes.Found period shown corners schedule) = (
    (search arith, (fraction_word period.num period.den, tt)),
    appended IsLine (common_show_lines circuit shown corners) (arrival_lines circuit schedule)
        (common_show_lines_are shown corners) (arrival_lines_are schedule),
  )
  corners_lines_are (outcomes.Never cycle corners) =
      (search arith, numbered_lines_are cycle corners)
