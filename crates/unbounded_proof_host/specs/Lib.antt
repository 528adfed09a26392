pub mod Hosted
pub mod Slips
