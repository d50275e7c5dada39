pub mod Reading
pub mod Accepted
pub mod LinkedRecord
pub mod OneOutcome
