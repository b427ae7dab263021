-- What clusters may stand in order by. Merging two costs no less than they are apart on any axis.
use Rattle.std.specs.Prelude.{ℤ}
use Rattle.tilted_rect.specs.declared.cluster.Cluster.{Cluster}
use Rattle.topology.specs.declared.axis.Axis.{Axis}
use Rattle.topology.specs.declared.axis.Axis.TheVariants.{U, V, Reach}

-- where a cluster begins
abbrev pub low_on : Axis → Cluster → ℤ
low_on U cluster = cluster.region.ulo
low_on V cluster = cluster.region.vlo
low_on Reach cluster = cluster.reach

-- and where it ends
abbrev pub high_on : Axis → Cluster → ℤ
high_on U cluster = cluster.region.uhi
high_on V cluster = cluster.region.vhi
high_on Reach cluster = cluster.reach
