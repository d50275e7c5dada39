pub mod Lifts
pub mod Grounds
pub mod Networks
pub mod AcceptedCalls
pub mod LeftDemand3
pub mod LeftWet
pub mod NowhereAbove
pub mod OneOutcome
