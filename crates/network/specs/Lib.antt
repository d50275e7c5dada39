pub mod Lifting
pub mod Call
