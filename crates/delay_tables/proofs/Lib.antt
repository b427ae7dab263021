mod Vocabulary
mod FlawlessTables
mod Fractions
mod Judgements
pub mod OneFault
pub mod OneTable
mod DenotedTables
mod UnknownNames
mod Ways
