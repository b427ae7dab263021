-- When the clock reaches the registers through the wires of a tree, under the linear delay model:
-- Boese and Kahng 1992; Chao and others 1992. A wire delays a/b ticks for each length unit, and a
-- length unit has so many grid steps.
use Rattle.std.specs.Prelude.{ℕ, ℤ, ◌*ℤ◌, nat_abs}
use Rattle.cts_base.specs.declared.fraction.Fraction.{Fraction}
use Rattle.cts_model.specs.Types.{Circuit, Tech}
use Rattle.cts_model.specs.tree.Problems.{grid_of}
use Rattle.cts_model.specs.timing.Timing.{Meets}

-- the scale: ticks are counted in parts of this size, so that the delays of wires and the period
-- are whole numbers of them
abbrev pub delay_scale : Fraction → Tech → ℕ
delay_scale period tech = nat_abs (period.den *ℤ grid_of period tech *ℤ tech.wire_den)

-- the delay of a wire of so many grid steps
abbrev pub wire_delay : Fraction → Tech → (wire : ℤ) → ℤ
wire_delay period tech wire = wire *ℤ tech.wire_num *ℤ period.den

-- the period
abbrev pub delay_period : Fraction → Tech → ℤ
delay_period period tech = period.num *ℤ grid_of period tech *ℤ tech.wire_den

-- with the delay of the wire from the source down to each register in place of its arrival, both
-- inequalities hold over every path
abbrev pub MeetsByWire : Circuit → Tech → Fraction → (wire : ℕ → ℤ) → Type 0
MeetsByWire circuit tech period wire = Meets circuit tech (delay_scale period tech)
    (delay_period period tech) (λ register. wire_delay period tech (wire register))
