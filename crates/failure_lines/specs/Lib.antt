pub mod Failures
pub mod Line
pub mod Refusals
pub mod Vocabulary
