pub mod Walk
pub mod Climb
