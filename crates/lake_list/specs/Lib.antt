pub mod Rows
pub mod Measured
pub mod Listing
pub mod Outermost
