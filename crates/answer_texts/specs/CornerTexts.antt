-- What the command `corners` prints: the least period and the least arrivals that serve the delay
-- tables of several corners, or what forbids every period. Fishburn, "Clock Skew Optimization",
-- 1990, in each corner.
use Rattle.std.specs.Prelude.{◌≡◌, ◌+◌, ℕ, pos, List, [], ◌∷◌, ◌++◌, length, slice_index_or, codes}
use Rattle.std.specs.Fmt.{signed_decimal}
use Rattle.cts_base.specs.declared.fraction.Fraction.{Fraction}
use Rattle.answer_texts.specs.Types.{Circuit, Constraint, PeriodShow, Schedule, Tech}
use Rattle.cts_model.specs.Vocabulary.{Words, text_of, count_line, floor_line, line_for, period_line, lines_below}
use Rattle.cts_model.specs.declared.period.PeriodShow.TheVariants as shows
use Rattle.corners.specs.declared.outcome.CornersOutcome.{CornersOutcome}
use Rattle.corners.specs.declared.outcome.CornersOutcome.TheVariants.{Found, Never}
use Rattle.corners.specs.CornerLists.{constraint_at}
use Rattle.corners.specs.CornerCycles.{IsCommonForbidding}
use Rattle.corners.specs.CornerOutcomes.{IsCommonTiming}
use Rattle.critical_cycle.specs.CyclePlaces.{IsFromLowest}
use Rattle.outcomes.specs.ShownCycles.{ShowsFromLowest}
use Rattle.answer_texts.specs.ArrivalTexts.{arrival_lines}
use Rattle.answer_texts.specs.NeverTexts.{IsFoundOrNever}

-- the line of a constraint, and after it the number of its corner
abbrev pub cornered_line : Circuit → Constraint → (number : ℕ) → Words
cornered_line circuit constraint number =
    line_for circuit constraint ++ signed_decimal (pos number) ∷ []

-- that of the constraint at a place; its corner is counted from 1
abbrev pub cornered_line_at : Circuit → List Constraint → (corners : List ℕ) → ℕ → Words
cornered_line_at circuit cycle corners place =
    cornered_line circuit (constraint_at cycle place) (slice_index_or corners place 0 + 1)

-- a cycle, and its constraints in order
abbrev pub cornered_lines : Circuit → List Constraint → (corners : List ℕ) → List Words
cornered_lines circuit cycle corners = count_line (codes "cycle") (length cycle)
    ∷ lines_below (cornered_line_at circuit cycle corners) (length cycle)

-- what shows that no period is less
abbrev pub common_show_lines : Circuit → PeriodShow → (corners : List ℕ) → List Words
common_show_lines circuit (shows.Cycle cycle) corners = cornered_lines circuit cycle corners
common_show_lines circuit shows.Floor corners = floor_line ∷ []

-- the lines for an outcome
abbrev pub corners_lines : Circuit → CornersOutcome → List Words
corners_lines circuit (Found period shown corners schedule) = period_line period
    ∷ common_show_lines circuit shown corners ++ arrival_lines circuit schedule
corners_lines circuit (Never cycle corners) =
    (codes "never" ∷ []) ∷ cornered_lines circuit cycle corners

-- the exit status for an outcome
abbrev pub corners_status : CornersOutcome → ℕ
corners_status (Found period shown corners schedule) = 0
corners_status (Never cycle corners) = 1

-- the bytes say what was found for all corners; the cycle that shows the period begins at its
-- lowest register
pub record IsCommonText (circuit : Circuit) (techs : List Tech) (text : List ℕ) : Type 0 where
  pub period : Fraction
  pub shown : PeriodShow
  pub corners : List ℕ
  pub schedule : Schedule
  pub found : IsCommonTiming circuit techs period shown corners schedule
  pub lowest : ShowsFromLowest shown
  pub spelled : text ≡ text_of (period_line period
      ∷ common_show_lines circuit shown corners ++ arrival_lines circuit schedule)

-- the bytes are a text for a cycle that forbids every period; it begins at its lowest register
pub record IsNoCommonText (circuit : Circuit) (techs : List Tech) (text : List ℕ) : Type 0 where
  pub cycle : List Constraint
  pub corners : List ℕ
  pub forbids : IsCommonForbidding circuit techs cycle corners
  pub lowest : IsFromLowest cycle
  pub spelled : text ≡ text_of ((codes "never" ∷ []) ∷ cornered_lines circuit cycle corners)

-- the bytes are a text for the least schedule that serves all corners of this circuit, with its
-- status
abbrev pub IsCornersText : Circuit → List Tech → (status : ℕ) → List ℕ → Type 0
IsCornersText circuit techs =
    IsFoundOrNever (IsCommonText circuit techs) (IsNoCommonText circuit techs)
