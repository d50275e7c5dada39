pub mod Counts
pub mod ForC
pub mod Demands
pub mod OneOutcome
