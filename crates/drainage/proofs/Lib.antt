pub mod OwnReceivers
pub mod Backwards
pub mod Ordered
pub mod OneOutcome
