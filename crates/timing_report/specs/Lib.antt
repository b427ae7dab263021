pub mod ListedPairs
pub mod SpareTicks
pub mod Vocabulary
