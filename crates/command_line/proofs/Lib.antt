mod Vocabulary
mod PlainWordTests
pub mod NumberWords
pub mod PeriodWords
mod GivenOptions
pub mod PlainCommands
mod ParserWalk
mod CommandParsers
