pub mod Ways
pub mod Numbering
pub mod Sweeping
pub mod Gathers
pub mod OneOutcome
