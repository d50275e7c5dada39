pub mod Printing
pub mod Input
pub mod LastLine
pub mod OneOutcome
