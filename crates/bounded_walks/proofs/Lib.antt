mod Cutting
pub mod Facts
