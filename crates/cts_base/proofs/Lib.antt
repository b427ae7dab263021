mod Vocabulary
mod Places
mod Searches
mod LineLemmas
mod WordLemmas
mod DecimalLemmas
mod ScaleLemmas
mod MicroLemmas
mod SizeLemmas
pub mod Micros
mod WholeReading
mod QuotientReading
pub mod FractionReading
pub mod OneNumberText
pub mod OneSpelling
pub mod PlainNumerals
pub mod Quotients
pub mod Divisors
pub mod GreatestDivisors
pub mod LineFaults
pub mod Told
pub mod ListTests
pub mod OneFraction
