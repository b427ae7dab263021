pub mod HashedWords
pub mod Names
pub mod RegisterNames
