pub mod LakeCall
