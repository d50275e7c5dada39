pub mod Listing
pub mod Squares
