mod Vocabulary
mod NameLemmas
mod PointLemmas
mod PlaceLemmas
mod ToldPlaces
pub mod TellsPlaces
