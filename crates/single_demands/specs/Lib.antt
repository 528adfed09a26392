pub mod Notions
pub mod Stories
pub mod Foretold
pub mod Attained
pub mod Runs
pub mod Demands
