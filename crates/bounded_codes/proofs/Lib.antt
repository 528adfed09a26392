mod Along
pub mod Codes
pub mod Standing
pub mod Ranges
