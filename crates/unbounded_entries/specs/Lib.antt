pub mod Aims
pub mod Looks
