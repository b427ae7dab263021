pub mod Points
pub mod PlaceLines
pub mod Coordinates
