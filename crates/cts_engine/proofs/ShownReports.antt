-- The report of a problem shows what it says.
use Rattle.cts_engine.proofs.Vocabulary.{◌≡◌, ◌⊎◌, ◌<◌, ◌-◌, ℕ, zero, suc, ℤ, ◌*ℤ◌, ◌≤ℤ◌, List, [], ◌∷◌, length, Bool, true, false, Option, Some, None, inl, inr, refl, sym, ap, subst, ◌∙◌, arith, All, IfSome, MatchBool, nat_le, slice_get, ints, IfSome_then, get_or_from_slice_get, slice_get_within, Fraction, Circuit, Constraint, PeriodShow, Cycle, Floor, Sink, Uv, Problem, Report, Lead, Zero, Tight, Tech, Merge, Show, Tree, ArePathsOf, ArePathsWithin, GivesWeight, IsConstraintOf, Embedding, embedding_of, IsLead, ShowsEarliest, IsPeriodShow, rotated, AtEach, IsShown, IsShownLeast, IsShownTiming, IsShownTree, cycle_of, sinks_in, source_in, IsTopology, size_same, wires_are_left, IsPlacedTree, reach_in, IsReportWith, IsSynthesis, ShowsSynthesis}
use Rattle.std.proofs.Math.IntN.{*ℤ_comm}
use Rattle.cts_engine.specs.Types.{Topology}
use Rattle.cts_model.specs.Vocabulary.{IsDrawn, GivesPeriod, HasShape, HoldsTogether, IsGivenPath, IsOfCircuit, IsReachShown, IsSkewed}
use Rattle.cts_engine.proofs.DrawLemmas.{edge_wire}
use Rattle.cts_model.proofs.RoundLemmas.{cycle_holds_together}
use Rattle.cts_model.proofs.ShownTrees.{scaled-once}

-- what holds of the value that is there, if any
if_some : {X : Type 0} (found : Option X) {Holds : X → Type 0}
    → ((value : X) → found ≡ Some value → Holds value) → IfSome found Holds
if_some None holds = tt
if_some (Some value) holds = holds value refl

-- ---- timing

module _ (circuit : Circuit) (tech : Tech) where
  -- each constraint of a critical cycle is one of the circuit
  each_of_circuit : (cycle : List Constraint) → All (IsConstraintOf circuit tech) cycle
      → (place : ℕ) → IsOfCircuit circuit tech cycle place
  each_of_circuit cycle all place = search (arith, if_some, get_or_from_slice_get, slice_get_within)

  -- what shows the period gives it
  module _ (period : Fraction) where
    shown_together : (shown : PeriodShow) → IsPeriodShow circuit tech period shown
        → AtEach (length (cycle_of shown)) (HoldsTogether (cycle_of shown))
    shown_together (Cycle cycle) is place within =
        cycle_holds_together cycle is.shows.is_cycle place within
    shown_together Floor is place within = absurd (omega arith)

    shown_of_circuit : (shown : PeriodShow) → IsPeriodShow circuit tech period shown
        → AtEach (length (cycle_of shown)) (IsOfCircuit circuit tech (cycle_of shown))
    shown_of_circuit (Cycle cycle) is place within = each_of_circuit cycle is.of_circuit place
    shown_of_circuit Floor is place within = absurd (omega arith)

    shown_gives : (shown : PeriodShow) → IsPeriodShow circuit tech period shown
        → GivesPeriod tech period shown
    shown_gives (Cycle cycle) is = (is.shows.counts, is.shows.value)
    shown_gives Floor is = is

  -- a path that is kept gives its constraint's weight
  given_within : (room : ℕ) (cycle : List Constraint) (paths : List (List ℕ))
      → ArePathsWithin circuit tech room cycle paths → (place : ℕ)
      → IsGivenPath circuit tech cycle paths place
  given_within room [] paths within place = tt
  given_within room (constraint ∷ cycle) [] within place = absurd within
  given_within room (constraint ∷ cycle) (path ∷ paths) (whole, gives, rest) zero =
      first (nat_le (length whole) room) rest
    where
      first : (fits : Bool) → MatchBool fits ((path ≡ whole)
          × ArePathsWithin circuit tech (room - length whole) cycle paths)
          ((path ≡ []) × ArePathsWithin circuit tech room cycle paths)
          → (path ≡ []) ⊎ GivesWeight circuit tech constraint path
      first true (same, later) = inr (subst (GivesWeight circuit tech constraint) (sym same) gives)
      first false (none, later) = inl none
  given_within room (constraint ∷ cycle) (path ∷ paths) (whole, gives, rest) (suc place) =
      later (nat_le (length whole) room) rest
      (λ left within. given_within left cycle paths within place)
    where
      later : (fits : Bool) → MatchBool fits ((path ≡ whole)
          × ArePathsWithin circuit tech (room - length whole) cycle paths)
          ((path ≡ []) × ArePathsWithin circuit tech room cycle paths)
          → ((left : ℕ) → ArePathsWithin circuit tech left cycle paths
          → IsGivenPath circuit tech cycle paths place) → IsGivenPath circuit tech cycle paths place
      later true (same, within) given = given (room - length whole) within
      later false (none, within) given = given room within

  -- so it is with the paths of what shows the period
  given_paths : (shown : PeriodShow) (paths : List (List ℕ))
      → ArePathsOf circuit tech shown paths → AtEach (length (cycle_of shown))
      (IsGivenPath circuit tech (cycle_of shown) paths)
  given_paths (Cycle cycle) paths are place within = given_within 4096 cycle paths are place
  given_paths Floor paths are place within = absurd (omega arith)

  -- a lead shows that nothing is earlier
  led : (period : Fraction) (at : List ℤ) (leads : List Lead) (register : ℕ) (lead : Lead)
      → IsLead (IsConstraintOf circuit tech) period at leads register lead
      → ShowsEarliest (IsConstraintOf circuit tech) period at leads register lead
  led period at leads register Zero is = is
  led period at leads register (Tight depth constraint) is = is.led

-- ---- trees

module _ {sinks : List Sink} {merges : List Merge} {source : Uv} {tree : Tree} {shows : List Show}
    (topology : IsTopology (length sinks) merges)
    (placed : IsPlacedTree sinks merges source tree shows) where
  abbrev embedding : Embedding
  embedding = embedding_of tree

  has_shape : (node : ℕ) → HasShape sinks merges source embedding node
  has_shape node = record {
    sink_stands = IfSome_then (slice_get sinks node) (placed.embedded.sinks_stand node)
        (λ sink stands. stands ∙ sym (scaled-once sink.at));
    joins = λ place merge is here. topology.each place merge here;
    source_stands = λ is. ap (λ n. rotated (embedding.place n)) is
        ∙ placed.embedded.source_stands ∙ sym (scaled-once source);
  }

  -- whichever the wires down, they differ as the offsets do
  is_skewed : (register : ℕ) → register < length sinks → IsSkewed sinks merges embedding register
  is_skewed register within wire wires =
      let left = wires_are_left topology embedding.length (reach_in tree) wire
      placed.reaches wires in
      let here = left register (omega arith) in
      let there = left 0 (omega arith) in
      IfSome_then (slice_get sinks register) (placed.shown.of_sinks register)
      (λ sink is. IfSome_then (slice_get sinks 0) (placed.shown.of_sinks 0)
      (λ first first_is. omega (arith, ints)))

  is_reach_shown : (node : ℕ)
      → IsReachShown sinks merges source embedding (reach_in tree) shows node
  is_reach_shown node = search arith

-- ---- reports

module _ (problem : Problem) (report : Report) (is : IsSynthesis problem report)
    (shows : ShowsSynthesis problem report) where
  is_shown_timing : IsShownTiming problem.circuit problem.tech report
  is_shown_timing =
      let circuit = problem.circuit in
      let tech = problem.tech in
      let met = is.least_schedule.least.meets in
      let den = size_same report.period.den
      (omega (arith, ints, report.period.lowest.some_den)) in
      let floor = ap (λ z. z *ℤ tech.floor) den ∙ *ℤ_comm report.period.den tech.floor in
      record {
        from_floor = subst (λ z. z ≤ℤ report.period.num) floor is.least_period.admitted.0;
        together = shown_together circuit tech report.period report.shown shows.shown;
        of_circuit = shown_of_circuit circuit tech report.period report.shown shows.shown;
        gives = shown_gives circuit tech report.period report.shown shows.shown;
        meets = λ register within. record {
          setup = λ from path joins. met.setup from register path joins;
          hold = λ from path joins. met.hold from register path joins;
        };
        slacks = λ register within. if_some (slice_get report.slacks register)
            (shows.slacks.each register);
      }

  is_shown_least : IsShownLeast problem.circuit problem.tech report
  is_shown_least = search (arith, given_paths, led)

  is_shown_tree : IsShownTree (sinks_in problem report) (source_in problem report) report
  is_shown_tree = record {
    shape = λ node within. has_shape is.topology shows.placed node;
    long_enough = λ edge within parent is. shows.placed.embedded.long_enough edge parent is;
    drawn = λ edge within parent wire joins here. edge_wire IsDrawn
        (length (sinks_in problem report)) report.topology.merges (embedding_of report.tree)
        report.wires is.drawn edge parent wire joins here;
    skewed = is_skewed is.topology shows.placed;
    reaches = λ node within. is_reach_shown is.topology shows.placed node;
    total = is.total;
  }

-- the report of a problem with a topology shows what it says
pub report_is_shown : (problem : Problem) (topology : Topology) (report : Report)
    → IsReportWith problem topology report → IsShown problem report
report_is_shown problem topology report made =
    search (arith, is_shown_timing, is_shown_tree, is_shown_least)
