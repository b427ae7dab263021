mod Vocabulary
pub mod CircuitConstraints
pub mod CircuitLemmas
pub mod CycleLemmas
mod HostLemmas
pub mod HostedCircuits
mod KindLemmas
pub mod PointLemmas
pub mod RegisterLists
pub mod PairOrder
pub mod OneRecord
pub mod PathRegisters
pub mod TopologyLemmas
pub mod ScaleLemmas
pub mod TotalLemmas
mod WithoutLemmas
mod EmbeddingLemmas
pub mod SkewLemmas
pub mod TreeLemmas
mod ReachLemmas
pub mod TableLemmas
pub mod RoundLemmas
mod ShownLemmas
mod ShownTimings
pub mod ShownTrees
mod DownLemmas
mod SaidTimings
mod SaidTrees
mod SaidLemmas
pub mod LeadLemmas
pub mod ParentLemmas
pub mod GridLemmas
mod ProductLemmas
pub mod MarkLemmas
pub mod EntryLemmas
pub mod DelayRows
