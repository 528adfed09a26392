pub mod Padded
pub mod Acting
pub mod Throughout
pub mod Refusals
pub mod Mixed
pub mod EachNumber
pub mod Exactly
