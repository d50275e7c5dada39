pub mod NetworkRecord
pub mod ReadNetwork
pub mod Tellable
pub mod Samples
