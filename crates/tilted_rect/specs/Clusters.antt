-- Clusters as deferred merging keeps them: of a set of sinks the reach and the region at that
-- reach. Boese and Kahng 1992; Chao and others 1992.
use Rattle.std.specs.Prelude.{List, All, ℤ, ◌+ℤ◌}
use Rattle.cts_model.specs.declared.place.Sink.{Sink}
use Rattle.cts_model.specs.Vocabulary.{IsDoubleReach, IsTreeSink}
use Rattle.tilted_rect.specs.Extremes.{IsRegion}
use Rattle.tilted_rect.specs.declared.rect.Rect.{Rect}

-- the radius is the reach of those sinks, and the rectangle is where a node above them may stand
pub record IsReachAndRegion (sinks : List Sink) (radius : ℤ) (rect : Rect) : Type 0 where
  pub reach : IsDoubleReach sinks (radius +ℤ radius)
  pub region : IsRegion rect sinks radius

-- they are the reach and the region of some sinks that trees are made over
pub record HasTreeSinks (radius : ℤ) (rect : Rect) : Type 0 where
  pub sinks : List Sink
  pub each : All IsTreeSink sinks
  pub held : IsReachAndRegion sinks radius rect
