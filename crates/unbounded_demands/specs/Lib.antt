pub mod Notions
pub mod Stories
pub mod Claims
pub mod Waiting
pub mod Demands
pub mod Runs
pub mod Attained
