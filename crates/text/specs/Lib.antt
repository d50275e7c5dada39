pub mod Text
pub mod Samples
pub mod Writing
