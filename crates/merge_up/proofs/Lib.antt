mod Vocabulary
mod EndLemmas
pub mod SearchLemmas
pub mod WorkLemmas
