pub mod HashedWords
pub mod OneName
pub mod NameNumbers
