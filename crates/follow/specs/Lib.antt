pub mod Follow
pub mod Samples
