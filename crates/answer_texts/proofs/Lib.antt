mod Vocabulary
pub mod CycleRegisters
mod CornerRegisters
mod LineLemmas
mod ArrivalLemmas
mod CountedLines
mod LinePrefixes
mod TextLines
mod LineCounts
pub mod CountedTexts
pub mod AnswerTexts
pub mod OneText
pub mod TreeTexts
pub mod OutcomeTexts
