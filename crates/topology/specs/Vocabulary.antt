-- The words that the contracts of this crate have in common.
pub use Rattle.std.proofs.Props.{props}
pub use Rattle.std.specs.BinaryHeap.{IsHeap, heap_items}
pub use Rattle.std.specs.Coded.{Coded-set, coded_option}
pub use Rattle.std.specs.List.Sorted.{IsPermutation}
pub use Rattle.std.specs.Option.{option_to_list}
pub use Rattle.cts_model.specs.Vocabulary.{IsBelow, AreTreeSinks, IsGreedy}
pub use Rattle.cts_model.specs.declared.place.Sink.{Sink}
pub use Rattle.tilted_rect.specs.Corners.{bound}
pub use Rattle.topology.specs.Axes.{high_on, low_on}
pub use Rattle.topology.specs.LiveClusters.{IsKeptWith, IsPair, IsPast, cluster_of, other_of, owner_of, AreFirstSinks, AreKept, IsCheapestPair, IsMerging, IsSwept, HasCluster, IsAdded, IsAt, IsJoined, IsLeft, IsLooked, IsNearest, IsOrdered, IsUnjoined, StandsBefore, node_at}
pub use Rattle.topology.specs.Pairs.{IsBefore, IsReplaced, by_turn}
pub use Rattle.topology.specs.declared.pair.Pair.{Pair}
