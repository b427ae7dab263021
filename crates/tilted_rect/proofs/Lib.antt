mod Vocabulary
pub mod ClusterLemmas
pub mod CodeNumbers
pub mod ExtremeLemmas
mod IntervalLemmas
pub mod MergeLemmas
pub mod MultipleLemmas
mod RectLemmas
pub mod RegionLemmas
pub mod SpanLemmas
mod TurnLemmas
