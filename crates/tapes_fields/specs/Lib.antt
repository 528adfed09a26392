pub mod Fields
pub mod Judged
