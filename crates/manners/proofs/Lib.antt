pub mod Walks
pub mod OneOutcome
