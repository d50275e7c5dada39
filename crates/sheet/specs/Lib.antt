pub mod LevelSteps
pub mod SheetLinks
