pub mod Descents
pub mod Sources
pub mod Trees
pub mod Vocabulary
