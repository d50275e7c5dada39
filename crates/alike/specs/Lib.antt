pub mod NeighbourMasks
pub mod Columns
pub mod Narrowed
pub mod Samples
