pub mod Margins
pub mod SparingSchedules
pub mod RatioMargins
pub mod Sharing
pub mod Answers
pub mod Vocabulary
