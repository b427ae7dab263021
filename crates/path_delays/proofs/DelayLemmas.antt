-- The delays of gates, from the rows of a table.
use Rattle.path_delays.proofs.Vocabulary.{◌≡◌, ◌≤◌, ◌*◌, ℕ, ◌+◌, ◌-◌, ℤ, pos, negsuc, cond, Some, ◌+ℤ◌, ◌*ℤ◌, Bool, true, false, length, sym, subst, arith, ints, mul-le-mul_right, is_gate, place_of, Signal, Tech, delay_of, least_gate_delay, greatest_gate_delay, IsWithin, IsGateDelay, AreWithin, gate_sums, Circuit, List, [], ◌∷◌, refl, gate_inputs, sum_by, sum_by-cons}
use Rattle.std.proofs.Math.IntN.{pos-*ℤ-pos}
use Rattle.cts_model.proofs.DelayRows.{row_valid}

-- so much for each further input
scaled : (number : ℤ) (times : ℕ) → IsWithin 0 1000 number
    → IsWithin 0 (1000 * times) (number *ℤ pos times)
scaled (pos number) times within =
    let small : number ≤ 1000 = omega (arith, ints, within.below) in
    let most : number * times ≤ 1000 * times = mul-le-mul_right times small in
    let is : pos number *ℤ pos times ≡ pos (number * times) = pos-*ℤ-pos number times in
    subst (IsWithin 0 (1000 * times)) (sym is)
    (record { above = omega (arith, ints); below = omega (arith, ints, most) })
scaled (negsuc number) times within = absurd (omega (arith, ints, within.above))

-- what each input adds is within what it may
delay_within : (first per_input : ℤ) (inputs : ℕ) → IsWithin 0 1000000 first
    → IsWithin 0 1000 per_input
    → IsWithin 0 (1000000 + 1000 * inputs) (first +ℤ (per_input *ℤ pos (inputs - 1)))
delay_within first per_input inputs within each =
    let further = scaled per_input (inputs - 1) each in
    let fewer : 1000 * (inputs - 1) ≤ 1000 * inputs = omega arith in
    record {
      above = omega (arith, ints, within.above, further.above);
      below = omega (arith, ints, within.below, further.below);
    }

-- no delay of a gate is more
abbrev pub weight_of : Signal → ℕ
weight_of signal = 1000000 + 1000 * gate_inputs signal

-- a circuit's gates weigh so much together
pub weights_within : (circuit : Circuit) → sum_by weight_of circuit.signals ≤ 65799144000
weights_within circuit = grind (arith, weights_are)
  where
    weights_are : (signals : List Signal)
        → sum_by weight_of signals ≡ 1000000 * length signals + 1000 * sum_by gate_inputs signals
    weights_are [] = refl
    weights_are (signal ∷ signals) = omega (
      arith,
      sum_by-cons weight_of signal signals,
      sum_by-cons gate_inputs signal signals,
      weights_are signals,
    )

-- a gate's delays are within its weight
pub gate_within : (tech : Tech) (signal : Signal)
    → AreWithin (weight_of signal) (gate_sums tech signal)
gate_within tech signal = at (is_gate signal.kind)
  where
    row : IsGateDelay (delay_of tech signal.kind)
    row = row_valid tech.gates (place_of signal.kind) tech.valid.gates_within

    inputs : ℕ
    inputs = length signal.fan_in

    at : (b : Bool)
        → AreWithin (1000000 + 1000 * cond b inputs 0)
        (cond b
        (record {
          least = least_gate_delay tech (Some signal);
          greatest = greatest_gate_delay tech (Some signal);
        }) (record { least = pos 0; greatest = pos 0 }))
    at true = record {
      least = delay_within (delay_of tech signal.kind).least
          (delay_of tech signal.kind).least_per_input inputs row.least row.least_per_input;
      greatest = delay_within (delay_of tech signal.kind).greatest
          (delay_of tech signal.kind).greatest_per_input inputs row.greatest row.greatest_per_input;
    }
    at false = record {
      least = record { above = omega (arith, ints); below = omega (arith, ints) };
      greatest = record { above = omega (arith, ints); below = omega (arith, ints) };
    }
