pub mod Levels
pub mod LakesOn
pub mod ReadFound
