pub mod Drawn
pub mod Inputs
pub mod WrittenOver
pub mod Forbidden
pub mod ByDemand3
pub mod OneOutcome
