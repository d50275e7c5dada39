pub mod Readable
pub mod Lifted
pub mod LinkedRecord
pub mod WalkedRecord
