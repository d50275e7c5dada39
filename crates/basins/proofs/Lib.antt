pub mod Rounds
pub mod Settled
pub mod Numbered
pub mod OneOutcome
