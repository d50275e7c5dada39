pub mod Window
pub mod Sides
pub mod Neighbours
pub mod Masks
pub mod Samples
