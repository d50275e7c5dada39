pub mod Ring
pub mod Answers
pub mod Forbidden
pub mod OneOutcome
