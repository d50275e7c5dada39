pub mod LittleEndian
pub mod Trailer
