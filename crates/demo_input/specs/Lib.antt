pub mod Lines
pub mod Names
pub mod NetlistLines
pub mod PlacementLines
pub mod TableLines
