pub mod Roots
pub mod Merging
pub mod Following
pub mod Renamed
pub mod OneOutcome
