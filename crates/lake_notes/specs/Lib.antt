pub mod Noting
pub mod WetPairs
pub mod Meeting
