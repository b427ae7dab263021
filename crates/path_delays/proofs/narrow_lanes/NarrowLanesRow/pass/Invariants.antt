-- The lanes passed so far hold the sums after the gate, the later ones those before it.
use Rattle.path_delays.proofs.Vocabulary.{ℕ, ◌≡◌, ◌<◌, ◌≤◌, greatest_in, least_in}
use Rattle.std.specs.Prelude.{◌+ℤ◌}
use Rattle.path_delays.proofs.narrow_lanes.NarrowLanesRow.pass.Given as goal

abbrev pub invariant-loop-lane : goal.invariant-loop-lane
invariant-loop-lane l = record {
  least : (lane : ℕ) → lane < l.lane
      → least_in l.self lane ≡ least_in l.initial.self lane +ℤ l.least.ticks;
  greatest : (lane : ℕ) → lane < l.lane
      → greatest_in l.self lane ≡ greatest_in l.initial.self lane +ℤ l.greatest.ticks;
  later : (lane : ℕ) → l.lane ≤ lane → least_in l.self lane ≡ least_in l.initial.self lane;
  later_greatest : (lane : ℕ) → l.lane ≤ lane
      → greatest_in l.self lane ≡ greatest_in l.initial.self lane;
}
