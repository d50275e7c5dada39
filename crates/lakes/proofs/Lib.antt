pub mod Finding
pub mod Input
pub mod OneOutcome
