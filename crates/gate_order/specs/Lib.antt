pub mod GateReads
pub mod GroupParts
pub mod Grouped
pub mod LevelParts
pub mod Loops
pub mod Orders
pub mod Sorted
pub mod Vocabulary
