pub mod Rows
pub mod OneOutcome
