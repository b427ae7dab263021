-- Trees whose wire delays are the arrivals of a schedule, but for a common delay. Fishburn 1990;
-- Boese and Kahng 1992; Chao and others 1992. Lengths are numerators over a scale, in grid steps.
use Rattle.std.specs.Prelude.{◌≡◌, ◌<◌, ◌≤◌, ℕ, ℤ, pos, ◌-ℤ◌, ◌*ℤ◌, ◌≤ℤ◌, List, length}
use Rattle.cts_base.specs.declared.fraction.Fraction.{Fraction}
use Rattle.cts_model.specs.Types.{Point, Uv, Schedule, Tech, Merge}
use Rattle.cts_model.specs.tree.Embeddings.{AreWiresDown, Embedding, IsEmbedding, total_wire}
use Rattle.cts_model.specs.tree.Problems.{grid_of, sinks_of}
use Rattle.cts_model.specs.timing.Schedules.{arrival_of}

-- the wires down to two registers differ by the length that delays as long as their arrivals
-- differ: the wire's delay is a/b ticks for each length unit, which has `grid_of` grid steps
abbrev pub IsSkewOf : (scale : ℕ) → Fraction → Tech → (wire wire' arrival arrival' : ℤ) → Type 0
IsSkewOf scale period tech wire wire' arrival arrival' =
    ((wire -ℤ wire') *ℤ tech.wire_num *ℤ period.den)
    ≡ ((arrival -ℤ arrival') *ℤ tech.wire_den *ℤ pos scale *ℤ grid_of period tech)

-- the wire delays from the source differ by exactly the scheduled skews; wire is the length from
-- the source down to each node, in grid steps
pub record RealisesSchedule (scale : ℕ) (period : Fraction) (tech : Tech) (merges : List Merge)
    (schedule : Schedule) (tree : Embedding) : Type 0 where
  pub wire : ℕ → ℤ
  pub wires : AreWiresDown (length schedule.at) merges tree.length wire
  pub skews : (one other : ℕ) → one < length schedule.at → other < length schedule.at
      → IsSkewOf scale period tech (wire one) (wire other)
      (arrival_of schedule.at one) (arrival_of schedule.at other)

-- no embedding of the topology over these places that realises the schedule has less wire, whatever
-- its scale
abbrev pub IsLeastForSchedule : Fraction → Tech → List Point → Schedule → List Merge
    → (source : Uv) → (total : ℤ) → Type 0
IsLeastForSchedule period tech places schedule merges source total =
    (scale : ℕ) (other : Embedding) → 1 ≤ scale
    → IsEmbedding scale (sinks_of period tech places schedule.at) merges source other
    → RealisesSchedule scale period tech merges schedule other
    → (pos scale *ℤ total) ≤ℤ total_wire (length schedule.at) other
