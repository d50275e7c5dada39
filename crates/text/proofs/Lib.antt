pub mod Digits
pub mod Writing
pub mod Lines
pub mod Sums
pub mod Lengths
pub mod Balance
pub mod Inputs
pub mod OneOutcome
