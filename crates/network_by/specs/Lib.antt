pub mod Counted
pub mod CountSamples
pub mod Calls
pub mod ReadAnswer
