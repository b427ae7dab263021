pub mod Gains
pub mod Schedules
pub mod Rises
pub mod Given
pub mod Reaching
pub mod Tails
pub mod Vocabulary
