pub mod Step
pub mod Takings
pub mod Pushes
pub mod Pops
pub mod Each
