pub mod Turns
pub mod Resting
pub mod Back
