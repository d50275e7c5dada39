pub mod Stages
pub mod OneOutcome
