-- Which gate kinds occur in a circuit.
use Rattle.std.specs.Prelude.{◌≡◌, ◌↔◌, Bool, false, IsTrue, List, length, Any, slice_index_or}
use Rattle.cts_model.specs.Types.{Kind, Signal}
use Rattle.cts_model.specs.netlist.Kinds.{is_gate, place_of}

-- of the eight gate kinds these are the ones that some signal has
pub record AreUsedKinds (signals : List Signal) (used : List Bool) : Type 0 where
  pub eight : length used ≡ 8
  pub each : (kind : Kind) → IsTrue (is_gate kind)
      → IsTrue (slice_index_or used (place_of kind) false)
      ↔ Any (λ signal. signal.kind ≡ kind) signals
