pub mod Margins
pub mod LeastLevels
pub mod Weighing
pub mod OneOutcome
