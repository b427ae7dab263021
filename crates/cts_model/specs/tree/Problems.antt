-- What a clock tree is made for, and its sinks. Fishburn 1990; Boese and Kahng 1992; Chao and
-- others 1992. Places are given in micros, millionths of a length unit.
use Rattle.std.specs.Prelude.{◌≡◌, ◌≢◌, ◌↔◌, ◌^◌, ◌*◌, ℕ, ℤ, pos, ◌*ℤ◌, neg_ℤ, IsTrue, List, [], ◌∷◌, length, All}
use Rattle.cts_base.specs.declared.fraction.Fraction.{Fraction}
use Rattle.cts_model.specs.Types.{Circuit, Places, Point, Sink, Tech}
use Rattle.cts_model.specs.netlist.Circuits.{has_host}
use Rattle.cts_model.specs.timing.Delays.{delay_of}
use Rattle.cts_model.specs.netlist.Kinds.{is_gate}
use Rattle.cts_model.specs.netlist.Paths.{IsLoop}
use Rattle.cts_model.specs.placement.Points.{IsPointBelow, rotated}

-- the table gives the kind of each gate of the circuit
abbrev pub GivesUsedKinds : Circuit → Tech → Type 0
GivesUsedKinds circuit tech = All (λ signal. IsTrue (is_gate signal.kind)
    → IsTrue (delay_of tech signal.kind).given) circuit.signals

-- no gates form a loop, the table serves the circuit, and each register has a place, at most
-- 1,000,000,000 length units from the origin along either axis
pub record IsProblem (circuit : Circuit) (tech : Tech) (places : Places) : Type 0 where
  pub acyclic : (loop : List ℕ) → IsLoop circuit.signals loop → ⊥
  pub kinds : GivesUsedKinds circuit tech
  pub host : IsTrue (has_host circuit.signals) ↔ (tech.host ≢ [])
  pub registers : length places.registers ≡ length circuit.registers
  pub near : All (IsPointBelow (1000000000000001)) places.registers
  pub source_near : IsPointBelow (1000000000000001) places.source

-- how many grid steps a micro has: 8 q a, with a of the wire's delay a/b ticks for a length unit,
-- and the period's denominator q. The 8 keeps halves of reaches and of detours whole. A length unit
-- has a million times as many.
abbrev pub steps_of_micro : Fraction → Tech → ℤ
steps_of_micro period tech = pos 8 *ℤ period.den *ℤ tech.wire_num

abbrev pub grid_of : Fraction → Tech → ℤ
grid_of period tech = pos (10 ^ 6) *ℤ steps_of_micro period tech

-- a given point in grid steps
abbrev pub on_grid : Fraction → Tech → Point → Point
on_grid period tech point = record {
  x = steps_of_micro period tech *ℤ point.x;
  y = steps_of_micro period tech *ℤ point.y;
}

-- the length of wire, in grid steps, that delays the clock as long as the arrival is, in ticks over
-- the period's denominator
abbrev pub scheduled_length : Tech → (arrival : ℤ) → ℤ
scheduled_length tech arrival = pos (8 * 10 ^ 6) *ℤ tech.wire_den *ℤ arrival

-- a register as the tree sees it
abbrev pub sink_of : Fraction → Tech → Point → (arrival : ℤ) → Sink
sink_of period tech place arrival = record {
  at = rotated (on_grid period tech place);
  offset = neg_ℤ (scheduled_length tech arrival);
}

-- the registers with their places and arrivals, one by one
abbrev pub sinks_of : Fraction → Tech → List Point → List ℤ → List Sink
sinks_of period tech [] arrivals = []
sinks_of period tech (place ∷ places) [] = []
sinks_of period tech (place ∷ places) (arrival ∷ arrivals) =
    sink_of period tech place arrival ∷ sinks_of period tech places arrivals
