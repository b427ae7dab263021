pub mod Names
pub mod Placements
pub mod Taken
pub mod View
pub mod Vocabulary
