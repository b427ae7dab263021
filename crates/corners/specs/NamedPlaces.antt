-- The constraints at some places of a combined list, with their corners.
use Rattle.std.specs.Prelude.{◌≡◌, ℕ, List, slice_get}
use Rattle.std.specs.List.{filter_map}
use Rattle.critical_cycle.specs.CyclePlaces.{constraints_at}
use Rattle.corners.specs.declared.fold.Combined.{Combined}

-- those at these places, one after the other
pub record AreNamedAt (combined : Combined) (places : List ℕ) (named : Combined) : Type 0 where
  pub constraints : named.constraints ≡ constraints_at combined.constraints places
  pub corners : named.corner ≡ filter_map (slice_get combined.corner) places
