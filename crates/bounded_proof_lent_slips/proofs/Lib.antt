pub mod Refuted
pub mod Faithful
