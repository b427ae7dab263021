pub mod Buffers
pub mod Findings
pub mod Refusals
pub mod Statuses
pub mod TextAnswers
pub mod Vocabulary
