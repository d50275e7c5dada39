pub mod Judging
pub mod RecordCells
pub mod SizedLists
pub mod Acceptance
pub mod Numbers
pub mod OneOutcome
pub mod Water
pub mod Places
