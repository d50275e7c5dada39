pub mod Narrowed
pub mod Like
pub mod Columns
pub mod Puts
pub mod OneOutcome
