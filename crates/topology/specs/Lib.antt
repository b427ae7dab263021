pub mod Axes
pub mod LiveClusters
pub mod Pairs
pub mod Vocabulary
