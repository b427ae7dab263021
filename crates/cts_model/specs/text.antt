pub mod Names
pub mod Tokens
pub mod PrintedLines
pub mod Entries
