pub mod LakeText
pub mod Samples
