pub mod Picking
pub mod Choosing
