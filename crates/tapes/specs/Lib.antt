pub mod Written
pub mod Heard
