pub mod CommandTable
pub mod Commands
pub mod Parsers
pub mod PlainWords
pub mod Vocabulary
