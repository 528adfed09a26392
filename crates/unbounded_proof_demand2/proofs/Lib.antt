pub mod Turns
pub mod Dealings
pub mod Logged
pub mod Reached
pub mod Walk
pub mod Demand2
