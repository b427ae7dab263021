-- Of which sinks a cluster is. Boese and Kahng 1992; Chao and others 1992.
use Rattle.std.specs.Prelude.{List, ℤ, ◌-ℤ◌}
use Rattle.std.specs.Int.{int_max}
use Rattle.cts_model.specs.declared.place.Sink.{Sink}
use Rattle.tilted_rect.specs.Clusters.{IsReachAndRegion}
use Rattle.tilted_rect.specs.Rects.{gap_of}
use Rattle.tilted_rect.specs.declared.cluster.Cluster.{Cluster}

-- the cluster has the reach and the region of those sinks
abbrev pub IsCluster : List Sink → Cluster → Type 0
IsCluster sinks cluster = IsReachAndRegion sinks cluster.reach cluster.region

-- what the wire of a tree grows by where two clusters are merged: no less than the gap between
-- their regions, and no less than their reaches differ
abbrev pub cost_of : Cluster → Cluster → ℤ
cost_of one other = int_max
    (int_max (gap_of one.region other.region) (one.reach -ℤ other.reach))
    (other.reach -ℤ one.reach)
