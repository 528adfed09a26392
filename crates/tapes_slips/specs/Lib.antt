pub mod Slips
pub mod Refuted
