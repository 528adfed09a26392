pub mod Notions
pub mod Demands
pub mod Recording
pub mod Cases
