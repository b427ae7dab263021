pub mod Clusters
pub mod ClusterSets
pub mod Corners
pub mod Extremes
pub mod Intervals
pub mod Laws
pub mod Rects
pub mod Vocabulary
