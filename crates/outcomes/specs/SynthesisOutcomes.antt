-- The outcome of a synthesis: the report of the tree, or what forbids every period. Fishburn,
-- "Clock Skew Optimization", 1990.
use Rattle.outcomes.specs.Types.{Problem, Topology}
use Rattle.cts_model.specs.Vocabulary.{IsForbidding, IsShown}
use Rattle.critical_cycle.specs.CyclePlaces.{IsFromLowest}
use Rattle.outcomes.specs.declared.synthesis.Outcome.{Outcome}
use Rattle.outcomes.specs.declared.synthesis.Outcome.TheVariants.{Done, Never}
use Rattle.outcomes.specs.ShownCycles.{ShowsFromLowest}
use Rattle.outcomes.specs.Syntheses.{IsReportOf, IsReportWith}

-- the report of the problem with a topology, or a cycle of its circuit that forbids every period
abbrev pub IsOutcomeWith : Problem → Topology → Outcome → Type 0
IsOutcomeWith problem topology (Done report) = IsReportWith problem topology report
IsOutcomeWith problem topology (Never cycle) = IsForbidding problem.circuit problem.tech cycle

-- the same with the greedy topology
abbrev pub IsOutcome : Problem → Outcome → Type 0
IsOutcome problem (Done report) = IsReportOf problem report
IsOutcome problem (Never cycle) = IsForbidding problem.circuit problem.tech cycle

-- a report that is made shows what it says of the problem
abbrev pub IsShownOutcome : Problem → Outcome → Type 0
IsShownOutcome problem (Done report) = IsShown problem report
IsShownOutcome problem (Never cycle) = Unit {0}

-- the outcome is that no period will do
abbrev pub IsNeverOutcome : Outcome → Type 0
IsNeverOutcome (Done report) = ⊥
IsNeverOutcome (Never cycle) = Unit {0}

-- the cycle that is shown, if any, begins at its lowest register
abbrev pub BeginsLowest : Outcome → Type 0
BeginsLowest (Done report) = ShowsFromLowest report.shown
BeginsLowest (Never cycle) = IsFromLowest cycle
