pub mod Pairs
pub mod PairOrder
pub mod OneOutcome
