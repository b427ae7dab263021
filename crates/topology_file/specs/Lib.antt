pub mod Entries
pub mod Kept
pub mod Taken
pub mod TopologyTexts
pub mod Vocabulary
