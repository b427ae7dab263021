pub mod Decimals
pub mod Fractions
pub mod LineFormats
pub mod Lines
pub mod NumberParts
pub mod NumberTexts
pub mod Vocabulary
pub mod Words
