-- What trees over the sinks of a schedule say of the schedule. Fishburn 1990; Boese and Kahng 1992;
-- Chao and others 1992. Each law is the clause of a function of the module laws.
use Rattle.std.specs.Prelude.{◌≡◌, ℕ, ℤ, List, length, nat_abs}
use Rattle.cts_base.specs.declared.fraction.Fraction.{Fraction}
use Rattle.cts_model.specs.Types.{Circuit, Point, Uv, Schedule, Tech, Merge}
use Rattle.cts_model.specs.tree.Embeddings.{Embedding, IsLeastWire, RealisesOffsets}
use Rattle.cts_model.specs.tree.Problems.{sinks_of}
use Rattle.cts_model.specs.tree.RealisedSchedules.{IsLeastForSchedule, RealisesSchedule}
use Rattle.cts_model.specs.timing.Schedules.{arrival_of}
use Rattle.cts_model.specs.timing.Timing.{Meets}
use Rattle.cts_model.specs.tree.WireDelays.{MeetsByWire}

-- a tree that realises the offsets of a schedule's sinks realises the schedule
abbrev pub OffsetsAreSkews : Type 0
OffsetsAreSkews = (scale : ℕ) (period : Fraction) (tech : Tech) (places : List Point)
    (schedule : Schedule) (merges : List Merge) (tree : Embedding)
    → length places ≡ length schedule.at
    → RealisesOffsets scale (sinks_of period tech places schedule.at) merges tree
    → RealisesSchedule scale period tech merges schedule tree

-- and the other way round
abbrev pub SkewsAreOffsets : Type 0
SkewsAreOffsets = (scale : ℕ) (period : Fraction) (tech : Tech) (places : List Point)
    (schedule : Schedule) (merges : List Merge) (tree : Embedding)
    → length places ≡ length schedule.at
    → RealisesSchedule scale period tech merges schedule tree
    → RealisesOffsets scale (sinks_of period tech places schedule.at) merges tree

-- the least wire for the offsets is the least for the schedule
abbrev pub LeastForSchedule : Type 0
LeastForSchedule = (period : Fraction) (tech : Tech) (places : List Point) (schedule : Schedule)
    (merges : List Merge) (source : Uv) (wire : ℤ) → length places ≡ length schedule.at
    → IsLeastWire (sinks_of period tech places schedule.at) merges source wire
    → IsLeastForSchedule period tech places schedule merges source wire

-- where the arrivals of a schedule meet the period, so do the delays of the wires that realise it
abbrev pub RealisedMeets : Type 0
RealisedMeets = (circuit : Circuit) (tech : Tech) (period : Fraction) (merges : List Merge)
    (schedule : Schedule) (tree : Embedding) → length schedule.at ≡ length circuit.registers
    → Meets circuit tech (nat_abs period.den) period.num (arrival_of schedule.at)
    → (realised : RealisesSchedule 1 period tech merges schedule tree)
    → MeetsByWire circuit tech period realised.wire
