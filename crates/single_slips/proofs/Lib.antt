pub mod Ways
pub mod Meanings
pub mod Refuted
pub mod Faithful
