pub mod Along
pub mod Codes
pub mod Standing
