pub mod LakesCall
