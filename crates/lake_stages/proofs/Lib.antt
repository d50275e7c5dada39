pub mod TileLevels
pub mod FoundLakes
pub mod ReadLakes
pub mod OneOutcome
