pub mod Input
pub mod OneOutcome
