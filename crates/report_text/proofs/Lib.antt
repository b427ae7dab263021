mod Vocabulary
mod DenotedLines
mod SpelledFields
mod TreeLines
mod TimingLines
pub mod LineLemmas
mod NumberWords
pub mod OneLine
pub mod ReportWords
pub mod WordBytes
mod NameNumbers
mod ScanLemmas
mod FractionFlaws
mod WalkLemmas
mod WholeTexts
mod PartsOf
mod RowLemmas
mod BodyLemmas
mod PartLemmas
mod AssemblyLemmas
mod PassedTexts
mod JudgedWords
