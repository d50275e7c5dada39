pub mod LakeBytes
