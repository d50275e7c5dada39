pub mod Spills
pub mod Noting
pub mod Levels
