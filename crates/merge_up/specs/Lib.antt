pub mod Distances
pub mod Merging
pub mod SettledNodes
pub mod Sides
pub mod Views
pub mod Vocabulary
pub mod Works
