pub mod Said
pub mod Hosted
pub mod Mixed
pub mod Refuted
