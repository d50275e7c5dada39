pub mod Answer
pub mod Ring
