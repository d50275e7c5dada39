pub mod Input
pub mod Questions
pub mod OneOutcome
