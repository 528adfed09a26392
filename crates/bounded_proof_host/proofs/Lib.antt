pub mod Hosted
pub mod Mixed
pub mod Exactly
pub mod Refuted
