pub mod Groups
pub mod Lakes
pub mod LocalLevels
pub mod Notes
pub mod Passing
pub mod Nested
pub mod Samples
pub mod Fits
