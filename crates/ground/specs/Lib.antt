pub mod Record
pub mod Rooms
pub mod Judge
pub mod Good
pub mod Accepted
pub mod Samples
