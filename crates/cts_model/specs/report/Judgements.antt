-- What is judged of a report, whoever made it: that its period, its schedule and its clock tree are
-- those of a problem, and that what it prints beside them shows that they are the least. Fishburn
-- 1990; Boese and Kahng 1992; Chao and others 1992. Each judgement is made at each of some places:
-- of a cycle, a register, a node or an edge, which has the number of its lower node.
use Rattle.std.specs.Prelude.{◌≡◌, ◌≢◌, ◌⊎◌, ◌<◌, ◌≤◌, ◌+◌, ◌==◌, ℕ, ℤ, pos, ◌-ℤ◌, ◌*ℤ◌, ◌≤ℤ◌, List, [], length, take, if◌then◌else◌, Some, slice_get, IfSome, IsSomeAnd, nat_abs}
use Rattle.cts_base.specs.declared.fraction.Fraction.{Fraction}
use Rattle.cts_model.specs.Types.{Circuit, Constraint, PeriodShow, Cycle, Floor, Sink, Uv, Lead, Slack, Tech, Merge, Show, Wire}
use Rattle.cts_model.specs.Terms.{GivesWeight, IsConstraintOf, total_count, total_weight, greatest_delay, least_delay, IsDrawn, AreWiresDown, Embedding, ShowsEarliest, lead_at, IsFloorPeriod, IsPath, distance, rotated, arrival_of, ShowsMerge, ShowsSource, IsSlack, MeetsHold, MeetsSetup, IsMerge, IsParent, numbers_below, root_of, source_of}

-- the period isn't below the floor of the delay table
abbrev pub IsFromFloor : Tech → Fraction → Type 0
IsFromFloor tech period = (tech.floor *ℤ period.den) ≤ℤ period.num

-- the place after one in a round of so many
abbrev pub next_place : (places place : ℕ) → ℕ
next_place places place = if place + 1 == places then 0 else place + 1

-- the constraint at that place of the cycle ends where the next begins, and none before it begins
-- at the same register
pub record HoldsTogetherHere (cycle : List Constraint) (place : ℕ) (constraint : Constraint)
    : Type 0 where
  pub joins : IfSome (slice_get cycle (next_place (length cycle) place))
      (λ next. constraint.head ≡ next.tail)
  pub once : (earlier : ℕ) → earlier < place
      → IfSome (slice_get cycle earlier) (λ other. other.tail ≢ constraint.tail)

abbrev pub HoldsTogether : (cycle : List Constraint) → (place : ℕ) → Type 0
HoldsTogether cycle place = IfSome (slice_get cycle place) (HoldsTogetherHere cycle place)

-- the constraint at that place of the cycle is one of the circuit
abbrev pub IsOfCircuit : Circuit → Tech → (cycle : List Constraint) → (place : ℕ) → Type 0
IsOfCircuit circuit tech cycle place = IfSome (slice_get cycle place) (IsConstraintOf circuit tech)

-- what is shown gives the period: the cycle counts it, and its weights sum to that count of it; or
-- it is the floor
abbrev pub GivesPeriod : Tech → Fraction → PeriodShow → Type 0
GivesPeriod tech period (Cycle cycle) = (1 ≤ total_count cycle)
    × ((pos (nat_abs period.den) *ℤ total_weight cycle) ≡ (period.num *ℤ pos (total_count cycle)))
GivesPeriod tech period Floor = IsFloorPeriod tech period

-- every path that ends at the register meets the period, as the arrivals are
pub record MeetsAt (circuit : Circuit) (tech : Tech) (period : Fraction) (at : List ℤ)
    (register : ℕ) : Type 0 where
  pub setup : (from : ℕ) (path : List ℕ) → IsPath circuit from register path
      → MeetsSetup (arrival_of at from) (arrival_of at register)
      (greatest_delay circuit tech path) tech.setup (pos (nat_abs period.den)) period.num
  pub hold : (from : ℕ) (path : List ℕ) → IsPath circuit from register path
      → MeetsHold (arrival_of at from) (arrival_of at register)
      (least_delay circuit tech path) tech.hold (pos (nat_abs period.den))

-- a sink and the source stand at their given places, and a merge joins two nodes that are there and
-- that none before it joined, the lower number first
pub record HasShape (sinks : List Sink) (merges : List Merge) (source : Uv) (tree : Embedding)
    (node : ℕ) : Type 0 where
  pub sink_stands : IfSome (slice_get sinks node) (λ sink. rotated (tree.place node) ≡ sink.at)
  pub joins : (place : ℕ) (merge : Merge) → node ≡ length sinks + place
      → slice_get merges place ≡ Some merge → IsMerge (length sinks) (take place merges) merge
  pub source_stands : node ≡ source_of (length sinks) → rotated (tree.place node) ≡ source

-- the edge isn't shorter than the way between its ends
abbrev pub IsLongEnough : (sinks : ℕ) → List Merge → Embedding → (edge : ℕ) → Type 0
IsLongEnough sinks merges tree edge = (parent : ℕ) → IsParent sinks merges edge parent
    → distance (tree.place parent) (tree.place edge) ≤ℤ tree.length edge

-- the points of the edge are those of a wire of its length, from its upper end to its lower one
abbrev pub IsDrawnEdge : (sinks : ℕ) → List Merge → Embedding → List Wire → (edge : ℕ) → Type 0
IsDrawnEdge sinks merges tree wires edge = (parent : ℕ) (wire : Wire)
    → IsParent sinks merges edge parent → slice_get wires edge ≡ Some wire
    → IsDrawn (tree.place parent) (tree.place edge) (tree.length edge)
    (take wire.used wire.corners)

-- the wires down to the register and to the first one differ as their offsets do
abbrev pub IsSkewed : (sinks : List Sink) → List Merge → Embedding → (register : ℕ) → Type 0
IsSkewed sinks merges tree register = (wire : ℕ → ℤ)
    → AreWiresDown (length sinks) merges tree.length wire
    → IfSome (slice_get sinks register) (λ sink. IfSome (slice_get sinks 0)
    (λ first. wire register -ℤ wire 0 ≡ first.offset -ℤ sink.offset))

-- a merge's and the source's printed reach is that of each node below it with the length of that
-- one's edge, and its show, of its own sinks, gives it
pub record IsReachShown (sinks : List Sink) (merges : List Merge) (source : Uv) (tree : Embedding)
    (reach : ℕ → ℤ) (shows : List Show) (node : ℕ) : Type 0 where
  pub reach_is : (below : ℕ) → IsParent (length sinks) merges below node
      → tree.length below ≡ reach node -ℤ reach below
  pub of_merge : (place : ℕ) → place < length merges → node ≡ length sinks + place
      → IsSomeAnd (slice_get shows place)
      (ShowsMerge sinks (numbers_below (length sinks) merges node) (reach node))
  pub of_source : node ≡ source_of (length sinks) → IsSomeAnd (slice_get shows (length merges))
      (ShowsSource sinks source (reach (root_of (length sinks))) (reach node))

-- the register's printed slacks are what it has to spare
abbrev pub HasSlack : Circuit → Tech → Fraction → (at : List ℤ) → List Slack → (register : ℕ)
    → Type 0
HasSlack circuit tech period at slacks register = IfSome (slice_get slacks register)
    (IsSlack circuit tech (nat_abs period.den) period.num (arrival_of at) register)

-- the path at that place of the cycle, if it is printed, gives the constraint its weight
abbrev pub IsGivenPath : Circuit → Tech → (cycle : List Constraint) → List (List ℕ) → (place : ℕ)
    → Type 0
IsGivenPath circuit tech cycle paths place = IfSome (slice_get cycle place)
    (λ constraint. IfSome (slice_get paths place)
    (λ path. (path ≡ []) ⊎ GivesWeight circuit tech constraint path))

-- the register's arrival isn't below 0, and its lead shows that nothing is earlier
pub record IsEarliest (circuit : Circuit) (tech : Tech) (period : Fraction) (at : List ℤ)
    (leads : List Lead) (register : ℕ) : Type 0 where
  pub from_zero : pos 0 ≤ℤ arrival_of at register
  pub led : ShowsEarliest (IsConstraintOf circuit tech) period at leads register
      (lead_at leads register)
