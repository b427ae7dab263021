mod Vocabulary
pub mod DetourLemmas
pub mod DrawnLemmas
pub mod PieceLemmas
pub mod TableLemmas
