pub mod IsChosen
pub mod JoinsChosen
pub mod PickTurns
pub mod Choosing
pub mod OneOutcome
