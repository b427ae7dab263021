mod Vocabulary
mod AgreeingSinks
mod StepsUp
mod MovedSinks
mod PlacedShows
mod TakenLines
pub mod ToldMoves
