pub mod Steps
pub mod Samples
pub mod Wave
pub mod Spread
