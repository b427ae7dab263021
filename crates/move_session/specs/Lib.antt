pub mod MergesAbove
pub mod Moves
pub mod SessionViews
pub mod Sessions
pub mod Taken
pub mod Vocabulary
